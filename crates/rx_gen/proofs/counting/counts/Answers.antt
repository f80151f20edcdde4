use Rattle.std.proofs.Common.{sym, ◌∙◌}
use Rattle.rx_gen.specs.Numbers.{starts, prints, dies, loses}
use Rattle.rx_gen.proofs.Tallies.{count-more, byte_is}
use Rattle.rx_gen.proofs.counting.counts.Goals as goal

pub loop-i-preserved : goal.loop-i-preserved
loop-i-preserved c = (
  count-more starts c.args.history.now.entries c.loop-i.i _ _ _ _ c.item-entry.ensures c.loop-i.invariant.0 c.is_start.ensures c.from-started.ensures,
  count-more prints c.args.history.now.entries c.loop-i.i _ _ _ _ c.item-entry.ensures c.loop-i.invariant.1 c.is_print.ensures c.from-prints.ensures,
  count-more dies c.args.history.now.entries c.loop-i.i _ _ _ _ c.item-entry.ensures c.loop-i.invariant.2 c.is_death.ensures c.from-deaths.ensures,
  count-more loses c.args.history.now.entries c.loop-i.i _ _ _ _ c.item-entry.ensures c.loop-i.invariant.3 c.lost_in.ensures (c.losses_in-losses.ensures.one ∙ sym (byte_is _)),
)
