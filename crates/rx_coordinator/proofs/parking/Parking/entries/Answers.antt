use Rattle.rx_coordinator.proofs.parking.Parking.entries.Goals as goal

pub returns : goal.returns
returns c = λ p es k. k.stands.count
