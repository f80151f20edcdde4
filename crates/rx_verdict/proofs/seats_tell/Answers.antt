use Rattle.rx_verdict.proofs.Seating.{seats_tell}
use Rattle.rx_verdict.proofs.seats_tell.Goals as goal

pub returns : goal.returns
returns c = seats_tell
