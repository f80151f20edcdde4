use Rattle.rx_verdict.proofs.Seating.{seat_refuses}
use Rattle.rx_verdict.proofs.seats_refuse.Goals as goal

pub returns : goal.returns
returns c = seat_refuses
