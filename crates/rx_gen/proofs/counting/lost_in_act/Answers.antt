use Rattle.std.proofs.Common.{refl}
use Rattle.rx_gen.proofs.counting.lost_in_act.Goals as goal

pub returns-in-Release : goal.returns-in-Release
returns-in-Release c = rw c.in-Release.is refl
