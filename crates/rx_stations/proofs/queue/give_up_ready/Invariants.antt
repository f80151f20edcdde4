use Rattle.std.proofs.Common.{length}
use Rattle.rx_stations.proofs.queue.give_up_ready.Given as goal

abbrev pub decreases-rest : goal.decreases-rest
decreases-rest g l = length l.activities.items
