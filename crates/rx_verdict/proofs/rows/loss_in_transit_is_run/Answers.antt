use Rattle.rx_verdict.proofs.WorkedPairs.{loss_in_transit_is_run}
use Rattle.rx_verdict.proofs.rows.loss_in_transit_is_run.Goals as goal

pub returns : goal.returns
returns c = loss_in_transit_is_run
