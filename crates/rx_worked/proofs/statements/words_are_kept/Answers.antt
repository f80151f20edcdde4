use Rattle.rx_worked.proofs.StatementRuns.{kept_runs}
use Rattle.rx_worked.proofs.statements.words_are_kept.Goals as goal

pub returns : goal.returns
returns c = kept_runs
