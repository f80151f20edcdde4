use Rattle.std.proofs.Common.{◌≡◌, ℕ, [], sym, subst}
use Rattle.std.specs.Result.{IfOk}
use Rattle.rx_rules.proofs.Common.{Block, Empty, items, no_vars}
use Rattle.rx_syntax.specs.Shape.{Stands}
use Rattle.rx_control.specs.declared.control.Control.{Control}
use Rattle.rx_control.specs.Stands.{StandsFor}
use Rattle.tests_of_runs.proofs.objects_worked.first_control.Goals as goal

pub returns : goal.returns
returns c =
    subst (λ (n : ℕ). IfOk c.main.result (λ (k : Control). (b : Block) → Stands c.args.program.now.script b → StandsFor c.args.program.now.script k (items b [] Empty) × (k.vars ≡ no_vars n)))
    (sym c.requires) c.main.ensures.stands
