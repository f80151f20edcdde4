use Rattle.std.proofs.Common.{refl}
use Rattle.rx_verify.proofs.seat.Seat.local.Goals as goal

pub returns : goal.returns
returns c = λ t h. (c.in_ok-local.ensures.ok t h, refl, λ batch so_far g. c.in_ok-begin.ensures t batch so_far h g)
