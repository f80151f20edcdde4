use Rattle.std.proofs.Common.{◌≡◌}
use Rattle.rx_stations.proofs.worker.Worker.work.Given as goal

abbrev pub invariant-loop-turn : goal.invariant-loop-turn
invariant-loop-turn g l =
    (goal.iterator-loop-turn g).can_next l._turn-iterator
    × (goal.iterator-loop-turn g).is_finite l._turn-iterator
    × (l.self ≡ l.initial.self)
