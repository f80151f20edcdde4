use Rattle.rx_activities.specs.Turning.{StaysKnown}
use Rattle.rx_activities.specs.Inside.Stepping.{OnlySteps}
use Rattle.rx_activities.proofs.hand.Hand.run_on.Given as goal

abbrev pub invariant-loop-step : goal.invariant-loop-step
invariant-loop-step g l =
    (goal.iterator-loop-step g).can_next l._step-iterator
    × (goal.iterator-loop-step g).is_finite l._step-iterator
    × OnlySteps l.initial.self l.self
    × StaysKnown l.p l.initial.self l.self
