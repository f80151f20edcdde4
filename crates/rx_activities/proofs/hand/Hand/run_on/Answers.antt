use Rattle.std.proofs.Common.{sym, subst}
use Rattle.rx_control.specs.declared.control.Control.{Control}
use Rattle.rx_control.specs.Stands.{StandsFor}
use Rattle.rx_activities.proofs.Walking.{has_term, known_on}
use Rattle.rx_activities.proofs.hand.Hand.run_on.Goals as goal

pub next-requires-in-loop-step : goal.next-requires-in-loop-step
next-requires-in-loop-step g c =
    let b = c.checked.ensures in
    let has = has_term c.args.p.now c.loop-step.self b.0 b.1 (known_on c.args.p.now c.args.self.now c.loop-step.self c.loop-step.invariant.3 c.requires.known) in
    (has.0, subst (λ (x : Control). StandsFor c.args.p.now.script x has.0) (sym c.as_ref.ensures) has.1)
