use Rattle.rx_worked.proofs.StatementRuns.{early_end_excluded}
use Rattle.rx_worked.proofs.statements.early_end_is_no_run.Goals as goal

pub returns : goal.returns
returns c = early_end_excluded
