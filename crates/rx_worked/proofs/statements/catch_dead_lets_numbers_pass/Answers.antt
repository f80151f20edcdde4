use Rattle.rx_worked.proofs.StatementRuns.{not_caught_runs}
use Rattle.rx_worked.proofs.statements.catch_dead_lets_numbers_pass.Goals as goal

pub returns : goal.returns
returns c = not_caught_runs
