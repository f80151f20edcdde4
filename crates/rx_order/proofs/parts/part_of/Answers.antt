use Rattle.rx_order.proofs.Turns.{if-part, try-part, repeat-part}
use Rattle.rx_order.proofs.parts.part_of.Goals as goal

pub returns-in-If : goal.returns-in-If
returns-in-If c s t h =
    if-part s c.in-If.test c.in-If.first c.in-If.other c.args.path.now c.args.at c.one_of.result (c.one_of.ensures s) t (rw c.in-If.is at h)

pub returns-in-Repeat : goal.returns-in-Repeat
returns-in-Repeat c s t h =
    repeat-part s c.in-Repeat.times c.in-Repeat.body c.args.path.now c.args.at c.turn_of.result (c.turn_of.ensures s) t (rw c.in-Repeat.is at h)

pub returns-in-Try : goal.returns-in-Try
returns-in-Try c s t h =
    try-part s c.in-Try.dead_only c.in-Try.body c.in-Try.handler c.args.path.now c.args.at c.one_of-in-Try.result (c.one_of-in-Try.ensures s) t (rw c.in-Try.is at h)
