use Rattle.std.proofs.lemmas.Option.{slice_get-get_or}
use Rattle.rx_monitor.proofs.Places.{lines-more}
use Rattle.rx_monitor.proofs.text.put_lines.Goals as goal

pub loop-i-preserved : goal.loop-i-preserved
loop-i-preserved c = lines-more _ c.loop-i.out.items _ c.args.items.now c.loop-i.i _ (slice_get-get_or c.args.items.now c.loop-i.i _ c.loop-i-test.true) c.loop-i.invariant c.in_ok-put_line.ensures
