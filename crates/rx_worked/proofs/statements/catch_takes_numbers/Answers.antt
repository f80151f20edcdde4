use Rattle.rx_worked.proofs.StatementRuns.{caught_runs}
use Rattle.rx_worked.proofs.statements.catch_takes_numbers.Goals as goal

pub returns : goal.returns
returns c = caught_runs
