use Rattle.rx_runs.proofs.Theorem.{picked_is_run}
use Rattle.rx_runs.proofs.picked_run_is_run.Goals as goal

pub returns : goal.returns
returns c = picked_is_run
