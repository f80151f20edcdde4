use Rattle.std.proofs.Common.{flat_map}
use Rattle.rx_control.specs.Stands.{numbers}
use Rattle.rx_control.proofs.Paths.{goes-on}
use Rattle.rx_control.proofs.path.left_of.Goals as goal

pub loop-frame-init : goal.loop-frame-init
loop-frame-init c = λ rest. goes-on c.args.path.now c.args.base.now c.in_ok-left.left.now (flat_map numbers c.args.frames.now) rest c.in_ok-left.ensures
