-- What an edit of the list of holes does to the words that are in holes.
use Rattle.std.specs.Prelude.{ℕ, ◌+◌, ◌*◌, ◌^◌, ◌<◌, ◌≤◌, ◌⊎◌, List}
use Rattle.rx_heap.specs.declared.block.Hole.{Hole}
use Rattle.rx_heap.specs.Region.{InHole, LieApart}

-- the n words from s on, and no others, are in holes no longer
pub record Cuts (old new : List Hole) (s n : ℕ) : Type 0 where
  pub apart : (w : ℕ) → LieApart w 0 old → LieApart w 0 new
  pub kept : (x : ℕ) → InHole old x → (s ≤ x → x < s + n → ⊥) → InHole new x
  pub gone : (w x : ℕ) → LieApart w 0 old → InHole new x → s ≤ x → x < s + n → ⊥
  pub from : (x : ℕ) → InHole new x → InHole old x
  pub was : (x : ℕ) → s ≤ x → x < s + n → InHole old x

-- the n words from s on, and no others, have come into holes
pub record Joins (old new : List Hole) (s n : ℕ) : Type 0 where
  pub apart : (w : ℕ) → s + n ≤ w → LieApart w 0 old → LieApart w 0 new
  pub kept : (x : ℕ) → InHole old x → InHole new x
  pub gained : (x : ℕ) → s ≤ x → x < s + n → InHole new x
  pub from : (x : ℕ) → InHole new x → InHole old x ⊎ ((s ≤ x) × (x < s + n))

-- n words from s on may come into holes among w words, where the list of holes has this capacity
pub record HasRoom (w : ℕ) (holes : List Hole) (capacity s n : ℕ) : Type 0 where
  pub small : w < 2 ^ 32
  pub room : w < 2 * capacity
  pub apart : LieApart w 0 holes
  pub ends : s + n ≤ w
  pub clear : (x : ℕ) → s ≤ x → x < s + n → InHole holes x → ⊥
