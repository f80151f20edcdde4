-- What was served.
use Rattle.std.specs.Prelude.{◌≡◌, ◌⊎◌, ℕ, ◌≤◌, ◌-◌, ◌^◌, List, [], ◌++◌, length, Option}
use Rattle.std.specs.Io.KnownBytes.{Consumes, IsAtEnd, Appends}
use Rattle.rx_base.specs.Outside.{Rose}
use Rattle.rx_lines.specs.Session.{IsSession}
use Rattle.rx10_coordinator.specs.declared.status.Status.{Status}
use Rattle.rx10_coordinator.specs.declared.status.Status.TheVariants.{Done, WriteFault}

-- The input and the output before and after, and the faults of the output. What was written is the text of a session of what was read, or
-- a front of it where the status is `WriteFault`, and so it is only where a write has failed. The input was read to its end where the
-- status is `Done`, unless it gave 2^64 - 1 bytes.
pub record Served (p : ℕ) (old new : Option (List ℕ)) (w v : Option (List ℕ)) (f g : ℕ) (status : Status) : Type 0 where
  pub bytes : List ℕ
  pub text : List ℕ
  pub written : List ℕ
  pub rest : List ℕ
  pub took : Consumes old new bytes
  pub session : IsSession p bytes text
  pub wrote : Appends w v written
  pub front : text ≡ written ++ rest
  pub whole : (rest ≡ []) ⊎ (status ≡ WriteFault)
  pub fails : status ≡ WriteFault → Rose f g
  pub over : status ≡ Done → IsAtEnd new ⊎ (2 ^ 64 - 1 ≤ length bytes)
