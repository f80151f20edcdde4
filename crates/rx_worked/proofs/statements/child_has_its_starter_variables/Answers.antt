use Rattle.rx_worked.proofs.StatementRuns.{copied_runs}
use Rattle.rx_worked.proofs.statements.child_has_its_starter_variables.Goals as goal

pub returns : goal.returns
returns c = copied_runs
