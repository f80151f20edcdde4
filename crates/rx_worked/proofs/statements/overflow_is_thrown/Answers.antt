use Rattle.rx_worked.proofs.StatementRuns.{too_large_runs}
use Rattle.rx_worked.proofs.statements.overflow_is_thrown.Goals as goal

pub returns : goal.returns
returns c = too_large_runs
