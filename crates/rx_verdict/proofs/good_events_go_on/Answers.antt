use Rattle.rx_verdict.proofs.Stamps.{good_goes_on}
use Rattle.rx_verdict.proofs.good_events_go_on.Goals as goal

pub returns : goal.returns
returns c = good_goes_on
