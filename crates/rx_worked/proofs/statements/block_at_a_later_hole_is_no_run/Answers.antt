use Rattle.rx_worked.proofs.StatementRuns.{higher_excluded}
use Rattle.rx_worked.proofs.statements.block_at_a_later_hole_is_no_run.Goals as goal

pub returns : goal.returns
returns c = higher_excluded
