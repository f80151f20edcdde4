use Rattle.rx_worked.proofs.DeathRuns.{makes_between_runs}
use Rattle.rx_worked.proofs.deaths.stamp_between_entries_is_a_run.Goals as goal

pub returns : goal.returns
returns c = makes_between_runs
