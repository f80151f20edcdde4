use Rattle.rx_trace.proofs.Lines.{entries-more}
use Rattle.rx_trace.proofs.entry_lines.put_entries.Goals as goal

pub loop-i-preserved : goal.loop-i-preserved
loop-i-preserved c = entries-more _ _ _ _ c.loop-i.i _ c.item.ensures c.loop-i.invariant c.in_ok-put_entry.ensures
