use Rattle.rx_worked.proofs.StatementRuns.{swallowed_excluded}
use Rattle.rx_worked.proofs.statements.swallowed_fault_is_no_run.Goals as goal

pub returns : goal.returns
returns c = swallowed_excluded
