use Rattle.rx_worked.proofs.DeathRuns.{late_kill_runs}
use Rattle.rx_worked.proofs.deaths.kill_past_the_end_is_a_run.Goals as goal

pub returns : goal.returns
returns c = late_kill_runs
