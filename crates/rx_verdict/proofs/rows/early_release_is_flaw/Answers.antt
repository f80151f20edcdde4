use Rattle.rx_verdict.proofs.WorkedPairs.{early_release_is_flaw}
use Rattle.rx_verdict.proofs.rows.early_release_is_flaw.Goals as goal

pub returns : goal.returns
returns c = early_release_is_flaw
