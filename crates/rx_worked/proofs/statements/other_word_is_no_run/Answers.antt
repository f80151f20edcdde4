use Rattle.rx_worked.proofs.StatementRuns.{other_word_excluded}
use Rattle.rx_worked.proofs.statements.other_word_is_no_run.Goals as goal

pub returns : goal.returns
returns c = other_word_excluded
