use Rattle.std.proofs.Common.{length}
use Rattle.rx_objects.specs.Ending.{SeesEnd}
use Rattle.rx_live.specs.Inside.Ending.{StaysAt}
use Rattle.rx_live.proofs.Heard.{AreSeen}
use Rattle.rx_live.proofs.ending.meet_workers.Given as goal

abbrev pub invariant-worker : goal.invariant-worker
invariant-worker g l = SeesEnd g.N.Naming.ledger l.host × StaysAt l.fn.host l.host × AreSeen l.fn.kept.items l.kept.items l.host

abbrev pub decreases-worker : goal.decreases-worker
decreases-worker g l = length l.kept.items
