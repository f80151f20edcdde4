-- Where bytes are no script: the start of the first token that can't go on.
use Rattle.std.specs.Prelude.{◌≡◌, ℕ, ◌-◌, List, length, Some, slice_get}
use Rattle.rx_rules.specs.Code.{Block}
use Rattle.rx_syntax.specs.declared.token.Token.{Token}
use Rattle.rx_syntax.specs.Tokens.{AreNames}
use Rattle.rx_syntax.specs.Grammar.{IsScript, IsScriptOf}
use Rattle.rx_syntax.specs.Scans.{Scans}
use Rattle.rx_script.specs.Places.{IsPlace}

-- the first token that can't go on starts there
pub record IsFaultAt (bytes : List ℕ) (at : ℕ) : Type 0 where
  pub names : List (List ℕ)
  pub tokens : List Token
  pub starts : List ℕ
  pub scans : Scans names (length bytes) bytes tokens starts
  pub are_names : AreNames names tokens
  pub bad : List Token
  pub place : IsPlace tokens bad
  pub start : slice_get starts (length tokens - length bad) ≡ Some at

-- bytes are one script at most, with one list of names
abbrev pub OneScript : Type 0
OneScript =
    (bytes : List ℕ) (names other : List (List ℕ)) (s t : Block)
    → IsScriptOf names bytes s → IsScriptOf other bytes t → (names ≡ other) × (s ≡ t)

-- they have one place at most where they can't go on
abbrev pub OneFault : Type 0
OneFault = (bytes : List ℕ) (m n : ℕ) → IsFaultAt bytes m → IsFaultAt bytes n → m ≡ n

-- a script has none
abbrev pub NoFault : Type 0
NoFault = (bytes : List ℕ) (s : Block) (n : ℕ) → IsScript bytes s → IsFaultAt bytes n → ⊥
