use Rattle.rx_trace.specs.Fields.{kill_field}
use Rattle.rx_trace.proofs.Lines.{fields-more}
use Rattle.rx_trace.proofs.text.put_kill_fields.Goals as goal

pub loop-i-preserved : goal.loop-i-preserved
loop-i-preserved c = fields-more kill_field _ c.loop-i.out.items _ _ c.loop-i.i _ c.item.ensures c.loop-i.invariant c.in_ok-put_kill_field.ensures
