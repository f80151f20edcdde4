use Rattle.rx_worked.proofs.StatementRuns.{nowhere_runs}
use Rattle.rx_worked.proofs.statements.missing_place_is_raised.Goals as goal

pub returns : goal.returns
returns c = nowhere_runs
