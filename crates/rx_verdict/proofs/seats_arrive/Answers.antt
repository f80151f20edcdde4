use Rattle.rx_verdict.proofs.Seating.{seat_arrives}
use Rattle.rx_verdict.proofs.seats_arrive.Goals as goal

pub returns : goal.returns
returns c = seat_arrives
