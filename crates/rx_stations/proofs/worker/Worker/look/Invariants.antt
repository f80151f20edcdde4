use Rattle.std.proofs.Common.{◌≡◌}
use Rattle.rx_stations.proofs.worker.Worker.look.Given as goal

abbrev pub invariant-loop-step : goal.invariant-loop-step
invariant-loop-step g l = l.self ≡ l.initial.self
