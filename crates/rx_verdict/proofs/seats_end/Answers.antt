use Rattle.rx_verdict.proofs.Seating.{seat_ends}
use Rattle.rx_verdict.proofs.seats_end.Goals as goal

pub returns : goal.returns
returns c = seat_ends
