use Rattle.rx_worked.proofs.StatementRuns.{turns_runs}
use Rattle.rx_worked.proofs.statements.repeat_and_if_run.Goals as goal

pub returns : goal.returns
returns c = turns_runs
