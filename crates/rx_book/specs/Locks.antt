-- What contracts see of a lock.
use Rattle.atomic_table.specs.Seated.{TableId}

-- a lock: which one it is, and the key that was fixed when it was made
pub record LockId (K : Type 0) : Type 0 where
  pub table : TableId
  pub key : K
