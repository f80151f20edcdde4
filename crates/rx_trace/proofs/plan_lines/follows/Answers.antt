use Rattle.std.proofs.Common.{sym, ◌∙◌}
use Rattle.rx_trace.proofs.Ends.{follow-more, follow-none}
use Rattle.rx_trace.proofs.plan_lines.follows.Goals as goal

pub returns-then-not-comes_after : goal.returns-then-not-comes_after
returns-then-not-comes_after c = record {
  follows = follow-none c.args.kills.now c.loop-i.i c.item.result c.args.kill c.item.ensures (sym c.comes_after.ensures ∙ c.if-not-comes_after.true) c.loop-i.invariant;
}

pub loop-i-preserved : goal.loop-i-preserved
loop-i-preserved c = follow-more c.args.kills.now c.loop-i.i c.item.result c.args.kill c.item.ensures (sym c.comes_after.ensures ∙ c.if-not-comes_after.false) c.loop-i.invariant
