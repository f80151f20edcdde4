use Rattle.rx_worked.proofs.DeathRuns.{held_fault_runs}
use Rattle.rx_worked.proofs.deaths.held_fault_is_masked.Goals as goal

pub returns : goal.returns
returns c = held_fault_runs
