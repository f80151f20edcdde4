use Rattle.rx_runs.proofs.Endings.{everyone_ends}
use Rattle.rx_runs.proofs.everyone_ends.Goals as goal

pub returns : goal.returns
returns c = everyone_ends
