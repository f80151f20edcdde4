use Rattle.std.proofs.Common.{ℕ, sym, subst, Option, IfOk}
use Rattle.rx_rules.proofs.Common.{Block}
use Rattle.rx_syntax.specs.Shape.{Stands}
use Rattle.rx_history.specs.Setups.{given}
use Rattle.rx_program.specs.Top.{status_by, IsLiveText}
use Rattle.rx_program.proofs.run.make_live.Goals as goal

pub returns-in-None : goal.returns-in-None
returns-in-None g c =
    subst
    (λ (o : Option ℕ). IfOk c.make_unwatched.result (λ r. (code : Block) → Stands c.args.program.now.script code → IsLiveText code (given c.args.live.now.setup) o r.0.items (status_by r.1)))
    (sym c.in-None.is)
    c.make_unwatched.ensures

pub returns-in-Some : goal.returns-in-Some
returns-in-Some g c =
    subst
    (λ (o : Option ℕ). IfOk c.make_watched.result (λ r. (code : Block) → Stands c.args.program.now.script code → IsLiveText code (given c.args.live.now.setup) o r.0.items (status_by r.1)))
    (sym c.in-Some.is)
    c.make_watched.ensures
