use Rattle.rx_verdict.proofs.Stamps.{good_together}
use Rattle.rx_verdict.proofs.events_are_good_together.Goals as goal

pub returns : goal.returns
returns c = good_together
