use Rattle.std.proofs.Common.{◌∙◌}
use Rattle.rx_coordinator.proofs.parking.Parking.seat.Goals as goal

pub returns : goal.returns
returns c = λ p es k. c.at.ensures ∙ k.stands.seats c.args.task
