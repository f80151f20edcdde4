use Rattle.rx_worked.proofs.StatementRuns.{full_excluded}
use Rattle.rx_worked.proofs.statements.refused_beside_a_hole_is_no_run.Goals as goal

pub returns : goal.returns
returns c = full_excluded
