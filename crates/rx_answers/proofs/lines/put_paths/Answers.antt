use Rattle.rx_trace.proofs.Lines.{fields-more}
use Rattle.rx_answers.specs.Lines.{path_line}
use Rattle.rx_answers.proofs.lines.put_paths.Goals as goal

pub loop-i-preserved : goal.loop-i-preserved
loop-i-preserved c = fields-more path_line _ c.loop-i.out.items _ _ c.loop-i.i _ c.item.ensures c.loop-i.invariant c.in_ok-put_path_line.ensures
