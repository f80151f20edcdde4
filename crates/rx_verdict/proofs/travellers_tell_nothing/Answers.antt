use Rattle.rx_verdict.proofs.Marking.{away_event}
use Rattle.rx_verdict.proofs.travellers_tell_nothing.Goals as goal

pub returns : goal.returns
returns c = away_event
