use Rattle.std.proofs.Common.{refl}
use Rattle.rx_control.proofs.Starting.{empty-control}
use Rattle.rx_control.proofs.control.Control.idle.Goals as goal

pub returns : goal.returns
returns c = λ s. empty-control s _ refl c.new.ensures.items
