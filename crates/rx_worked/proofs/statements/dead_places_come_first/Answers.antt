use Rattle.rx_worked.proofs.StatementRuns.{mixed_runs}
use Rattle.rx_worked.proofs.statements.dead_places_come_first.Goals as goal

pub returns : goal.returns
returns c = mixed_runs
