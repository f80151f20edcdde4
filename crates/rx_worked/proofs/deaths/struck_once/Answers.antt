use Rattle.rx_worked.proofs.DeathRuns.{both_die_runs}
use Rattle.rx_worked.proofs.deaths.struck_once.Goals as goal

pub returns : goal.returns
returns c = both_die_runs
