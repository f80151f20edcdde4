use Rattle.rx_verdict.proofs.WorkedPairs.{unplanned_death_is_flaw}
use Rattle.rx_verdict.proofs.rows.unplanned_death_is_flaw.Goals as goal

pub returns : goal.returns
returns c = unplanned_death_is_flaw
