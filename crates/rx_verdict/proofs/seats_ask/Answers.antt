use Rattle.rx_verdict.proofs.Seating.{seat_asks}
use Rattle.rx_verdict.proofs.seats_ask.Goals as goal

pub returns : goal.returns
returns c = seat_asks
