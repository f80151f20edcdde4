use Rattle.rx_worked.proofs.DeathRuns.{both_at_once_runs}
use Rattle.rx_worked.proofs.deaths.two_kills_at_one_moment_are_a_run.Goals as goal

pub returns : goal.returns
returns c = both_at_once_runs
