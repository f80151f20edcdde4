use Rattle.std.proofs.Common.{length}
use Rattle.rx_live.proofs.Closed.{ClosesFrom}
use Rattle.rx_live.proofs.ending.close_places.Given as goal

abbrev pub invariant-place : goal.invariant-place
invariant-place g l =
    ClosesFrom g.N.Naming.ledger l.fn.stations.items l.fn.seats.items l.fn.host l.stations.items l.seats.items l.host l.stores.items

abbrev pub decreases-place : goal.decreases-place
decreases-place g l = length l.stations.items
