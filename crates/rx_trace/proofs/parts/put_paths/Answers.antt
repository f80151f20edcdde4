use Rattle.rx_trace.specs.Fields.{path_field}
use Rattle.rx_trace.proofs.Lines.{fields-more}
use Rattle.rx_trace.proofs.parts.put_paths.Goals as goal

pub loop-i-preserved : goal.loop-i-preserved
loop-i-preserved c = fields-more path_field _ c.loop-i.out.items _ _ c.loop-i.i _ c.item.ensures c.loop-i.invariant c.in_ok-put_path_field.ensures
