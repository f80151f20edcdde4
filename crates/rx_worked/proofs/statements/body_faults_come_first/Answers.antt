use Rattle.rx_worked.proofs.StatementRuns.{in_order_runs}
use Rattle.rx_worked.proofs.statements.body_faults_come_first.Goals as goal

pub returns : goal.returns
returns c = in_order_runs
