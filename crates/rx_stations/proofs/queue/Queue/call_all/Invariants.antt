use Rattle.std.proofs.Common.{length}
use Rattle.rx_stations.proofs.queue.Queue.call_all.Given as goal

abbrev pub decreases-rest : goal.decreases-rest
decreases-rest g l = length l.self.waiting.entries
