use Rattle.std.proofs.Common.{◌≡◌, [], sym, subst}
use Rattle.rx_rules.proofs.Common.{Empty, no_vars, items}
use Rattle.rx_control.specs.declared.control.Control.{Control}
use Rattle.rx_control.specs.Stands.{StandsFor}
use Rattle.rx_machine.proofs.machine.root_seat.Goals as goal

pub returns-clause-work : goal.returns-clause-work
returns-clause-work c = λ b written.
    subst (λ (v : Control). StandsFor c.args.p.now.script v (items b [] Empty) × (v.vars ≡ no_vars c.args.places)) (sym c.in_ok-control.ensures.ok) (c.in_ok-main.ensures.stands b written)
