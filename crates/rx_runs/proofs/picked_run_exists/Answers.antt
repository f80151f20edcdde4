use Rattle.rx_runs.proofs.Going.{has_run}
use Rattle.rx_runs.proofs.picked_run_exists.Goals as goal

pub returns : goal.returns
returns c = has_run
