use Rattle.std.proofs.Common.{arith, ◌+◌}
use Rattle.rx_order.proofs.Turns.{turn-there, no-turn}
use Rattle.rx_order.proofs.parts.turn_of.Goals as goal

pub returns-then-at-saturating_sub : goal.returns-then-at-saturating_sub
returns-then-at-saturating_sub c s body b =
    turn-there s c.args.block body c.args.path.now c.args.at c.number_at.result b c.number_at.ensures (omega (arith, c.if-at-saturating_sub.true, c.saturating_sub.ensures))

pub returns-else-at-saturating_sub : goal.returns-else-at-saturating_sub
returns-else-at-saturating_sub c s body b =
    no-turn s body c.args.path.now c.args.at (c.args.at + 1) (omega (arith, c.if-at-saturating_sub.false, c.saturating_sub.ensures))
