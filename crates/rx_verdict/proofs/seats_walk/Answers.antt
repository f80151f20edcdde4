use Rattle.rx_verdict.proofs.Seating.{seats_walk}
use Rattle.rx_verdict.proofs.seats_walk.Goals as goal

pub returns : goal.returns
returns c = seats_walk
