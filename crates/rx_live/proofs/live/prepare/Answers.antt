use Rattle.std.proofs.Common.{◌≡◌, sym, subst, []}
use Rattle.rx_rules.proofs.Common.{Block, Empty, items, no_vars}
use Rattle.rx_syntax.specs.Shape.{Stands}
use Rattle.rx_control.specs.declared.control.Control.{Control}
use Rattle.rx_control.specs.Stands.{StandsFor}
use Rattle.rx_live.proofs.live.prepare.Goals as goal

pub returns-clause-control : goal.returns-clause-control
returns-clause-control c =
    subst (λ (x : Control). (code : Block) → Stands c.args.p.now.script code → StandsFor c.args.p.now.script x (items code [] Empty) × (x.vars ≡ no_vars c.args.setup.now.places)) (sym c.in_ok-boxed.ensures.ok) c.in_ok-control.ensures.stands
