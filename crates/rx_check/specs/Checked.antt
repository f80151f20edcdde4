-- What contracts see of a checked script.
use Rattle.std.specs.Prelude.{◌≡◌, ℕ, None}
use Rattle.rx_rules.specs.Code.{Block, work}
use Rattle.rx_syntax.specs.Shape.{Shape, Stands}
use Rattle.rx_check.specs.Rules.{verdict}

-- a script by number, and its work
pub record Checked : Type 0 where
  pub script : Shape
  pub work : ℕ

-- the statements meet the rules
abbrev pub Meets : Block → Type 0
Meets t = verdict t ≡ None

-- the script meets the rules and has this work
abbrev pub IsChecked : Checked → Type 0
IsChecked p = (t : Block) → Stands p.script t → Meets t × (p.work ≡ work t)
