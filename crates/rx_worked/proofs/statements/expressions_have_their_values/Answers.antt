use Rattle.rx_worked.proofs.StatementRuns.{values_runs}
use Rattle.rx_worked.proofs.statements.expressions_have_their_values.Goals as goal

pub returns : goal.returns
returns c = values_runs
