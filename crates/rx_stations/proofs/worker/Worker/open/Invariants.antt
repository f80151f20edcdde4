use Rattle.std.proofs.Common.{◌≡◌, take}
use Rattle.rx_stations.proofs.worker.Worker.open.Given as goal

abbrev pub invariant-loop-at : goal.invariant-loop-at
invariant-loop-at g l = l.keys.items ≡ take l.at l.fn.hall.stations.items
