use Rattle.rx_monitor.proofs.Places.{places-more}
use Rattle.rx_monitor.proofs.text.put_places.Goals as goal

pub loop-p-preserved : goal.loop-p-preserved
loop-p-preserved c = places-more _ _ c.loop-p.out.items _ c.loop-p.p c.loop-p-test.true c.loop-p.invariant c.in_ok-put_place_if_member.ensures
