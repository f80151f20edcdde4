use Rattle.rx_trace.proofs.Lines.{events-more}
use Rattle.rx_trace.proofs.event_lines.put_events.Goals as goal

pub loop-i-preserved : goal.loop-i-preserved
loop-i-preserved c = events-more _ _ _ _ c.loop-i.i _ c.item.ensures c.loop-i.invariant c.in_ok-put_event.ensures
