use Rattle.rx_verdict.proofs.WorkedPairs.{missing_close_is_flaw}
use Rattle.rx_verdict.proofs.rows.missing_close_is_flaw.Goals as goal

pub returns : goal.returns
returns c = missing_close_is_flaw
