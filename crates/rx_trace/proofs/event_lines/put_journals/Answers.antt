use Rattle.rx_trace.proofs.Lines.{journals-more}
use Rattle.rx_trace.proofs.event_lines.put_journals.Goals as goal

pub loop-p-preserved : goal.loop-p-preserved
loop-p-preserved c = journals-more _ _ _ _ c.loop-p.p _ c.item.ensures c.loop-p.invariant c.in_ok-put_journal.ensures
