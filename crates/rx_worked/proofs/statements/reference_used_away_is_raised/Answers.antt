use Rattle.rx_worked.proofs.StatementRuns.{used_away_runs}
use Rattle.rx_worked.proofs.statements.reference_used_away_is_raised.Goals as goal

pub returns : goal.returns
returns c = used_away_runs
