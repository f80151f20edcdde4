-- How kills are written.
use Rattle.std.specs.Prelude.{◌≡◌, ℕ, ◌<◌, ◌≤◌, List, ◌∷◌, ◌++◌, Option, Some, IfSome, ℤ}
use Rattle.rx_base.specs.declared.ids.Kill.{Kill}
use Rattle.rx_text.specs.Numbers.{natural_text, number_text}

-- the place, `@` (the code 64), and the moment
abbrev pub kill_text : Kill → List ℕ
kill_text kill = natural_text kill.place.0 ++ 64 ∷ natural_text kill.moment

-- two numbers with `@` between them
abbrev pub with_sign : ℤ → ℤ → List ℕ
with_sign m n = number_text m ++ 64 ∷ number_text n

-- the bytes are the text of the kill, and its place and its moment are in their ranges
pub record IsKillWord (bytes : List ℕ) (kill : Kill) : Type 0 where
  pub place : kill.place.0 < 16
  pub moment : kill.moment ≤ 1000000
  pub spelled : bytes ≡ kill_text kill

-- The kill whose text the bytes are, and none exactly where they are no kill's. There is such an answer for all bytes, `spelling` of
-- proofs/Spelling.antt.
pub record Spelling (bytes : List ℕ) : Type 0 where
  pub kill : Option Kill
  pub spelled : IfSome kill (IsKillWord bytes)
  pub exact : (k : Kill) → IsKillWord bytes k → kill ≡ Some k
