use Rattle.rx_worked.proofs.StatementRuns.{other_value_excluded}
use Rattle.rx_worked.proofs.statements.other_value_is_no_run.Goals as goal

pub returns : goal.returns
returns c = other_value_excluded
