use Rattle.rx_runs.proofs.Left.{going_sinks}
use Rattle.rx_runs.proofs.going_sinks.Goals as goal

pub returns : goal.returns
returns c = going_sinks
