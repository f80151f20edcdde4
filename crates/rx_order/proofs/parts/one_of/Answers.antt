use Rattle.std.proofs.Common.{drop, ◌+◌}
use Rattle.rx_order.proofs.Turns.{one-none, one-zero, one-one, one-past}
use Rattle.rx_order.proofs.parts.one_of.Goals as goal

pub returns-in-None : goal.returns-in-None
returns-in-None c s first other a b =
    one-none s first other c.args.path.now (c.args.at + 1) (drop c.args.at c.args.path.now) (rw c.in-None.is at c.turn_of.ensures s first a)

pub returns-then-part-eq0 : goal.returns-then-part-eq0
returns-then-part-eq0 c s first other a b =
    one-zero s first other c.args.path.now (c.args.at + 1) (drop c.args.at c.args.path.now) c.in-Some.part c.if-part-eq0.true (rw c.in-Some.is at c.turn_of.ensures s first a)

pub returns-then-part-eq1 : goal.returns-then-part-eq1
returns-then-part-eq1 c s first other a b =
    one-one s first other c.args.path.now (c.args.at + 1) (drop c.args.at c.args.path.now) c.in-Some.part c.args.one c.if-part-eq1.true b (rw c.in-Some.is at c.turn_of.ensures s first a)

pub returns-else-part-eq1 : goal.returns-else-part-eq1
returns-else-part-eq1 c s first other a b =
    one-past s first other c.args.path.now (c.args.at + 1) (drop c.args.at c.args.path.now) c.in-Some.part c.if-part-eq0.false c.if-part-eq1.false (rw c.in-Some.is at c.turn_of.ensures s first a)
