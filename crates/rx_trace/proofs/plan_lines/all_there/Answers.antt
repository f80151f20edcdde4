use Rattle.std.proofs.Common.{sym, ◌∙◌}
use Rattle.rx_trace.proofs.Ends.{there-more, there-none}
use Rattle.rx_trace.proofs.plan_lines.all_there.Goals as goal

pub returns-then-not-is_there : goal.returns-then-not-is_there
returns-then-not-is_there c = record {
  there = there-none c.args.places c.args.joins.now c.args.kills.now c.loop-i.i c.item.result c.item.ensures (sym c.is_there.ensures ∙ c.if-not-is_there.true) c.loop-i.invariant;
}

pub loop-i-preserved : goal.loop-i-preserved
loop-i-preserved c = there-more c.args.places c.args.joins.now c.args.kills.now c.loop-i.i c.item.result c.item.ensures (sym c.is_there.ensures ∙ c.if-not-is_there.false) c.loop-i.invariant
