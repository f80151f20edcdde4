use Rattle.std.proofs.Common.{◌≡◌}
use Rattle.rx_live.specs.Inside.Ending.{MayRelease}
use Rattle.rx_live.proofs.live.until_released.Given as goal

abbrev pub invariant-loop-request : goal.invariant-loop-request
invariant-loop-request g l =
    (goal.iterator-loop-request g).can_next l._request-iterator
    × (goal.iterator-loop-request g).is_finite l._request-iterator
    × (l.worker ≡ l.fn.hall.stations.items)
    × MayRelease g.N.Naming.ledger l.host
