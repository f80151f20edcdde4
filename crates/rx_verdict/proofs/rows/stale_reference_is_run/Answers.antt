use Rattle.rx_verdict.proofs.WorkedPairs.{stale_reference_is_run}
use Rattle.rx_verdict.proofs.rows.stale_reference_is_run.Goals as goal

pub returns : goal.returns
returns c = stale_reference_is_run
