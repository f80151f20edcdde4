use Rattle.rx_worked.proofs.DeathRuns.{at_and_async_runs}
use Rattle.rx_worked.proofs.deaths.async_inside_at_hangs_under_finish.Goals as goal

pub returns : goal.returns
returns c = at_and_async_runs
