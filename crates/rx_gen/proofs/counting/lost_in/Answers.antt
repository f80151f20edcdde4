use Rattle.std.proofs.Common.{refl}
use Rattle.rx_gen.proofs.counting.lost_in.Goals as goal

pub returns-in-Root : goal.returns-in-Root
returns-in-Root c = rw c.in-Root.is refl
