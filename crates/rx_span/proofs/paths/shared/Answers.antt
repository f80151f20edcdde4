use Rattle.std.proofs.Common.{arith}
use Rattle.rx_span.proofs.Sharing.{shared-over_right}
use Rattle.rx_span.proofs.paths.shared.Goals as goal

pub returns-else-at-y : goal.returns-else-at-y
returns-else-at-y c =
    shared-over_right c.args.x.now c.args.y.now c.loop-at.at (omega (arith, c.if-at-y.false)) c.loop-at.invariant.0
