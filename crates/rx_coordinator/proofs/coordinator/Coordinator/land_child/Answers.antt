use Rattle.std.proofs.Common.{inl}
use Rattle.rx_coordinator.proofs.coordinator.Coordinator.land_child.Goals as goal

pub returns-in-Some : goal.returns-in-Some
returns-in-Some c = λ p es st. inl (c.land.ensures p es st)
