use Rattle.rx_verdict.proofs.WorkedPairs.{late_stamp_is_flaw}
use Rattle.rx_verdict.proofs.rows.late_stamp_is_flaw.Goals as goal

pub returns : goal.returns
returns c = late_stamp_is_flaw
