use Rattle.rx_worked.proofs.DeathRuns.{born_struck_runs}
use Rattle.rx_worked.proofs.deaths.task_for_a_dead_place_is_lost.Goals as goal

pub returns : goal.returns
returns c = born_struck_runs
