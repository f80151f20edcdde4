use Rattle.rx_runs.proofs.Single.{one_picked_run}
use Rattle.rx_runs.proofs.picked_run_is_one.Goals as goal

pub returns : goal.returns
returns c = one_picked_run
