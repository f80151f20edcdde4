use Rattle.rx_verdict.proofs.WorkedPairs.{late_close_is_flaw}
use Rattle.rx_verdict.proofs.rows.late_close_is_flaw.Goals as goal

pub returns : goal.returns
returns c = late_close_is_flaw
