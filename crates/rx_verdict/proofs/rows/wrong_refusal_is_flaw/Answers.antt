use Rattle.rx_verdict.proofs.WorkedPairs.{wrong_refusal_is_flaw}
use Rattle.rx_verdict.proofs.rows.wrong_refusal_is_flaw.Goals as goal

pub returns : goal.returns
returns c = wrong_refusal_is_flaw
