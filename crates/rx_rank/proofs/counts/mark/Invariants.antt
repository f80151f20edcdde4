use Rattle.std.proofs.Common.{◌/◌, ◌<◌, length}
use Rattle.rx_rank.specs.Counts.{IsLate}
use Rattle.rx_rank.proofs.Adding.{IsUp}
use Rattle.rx_rank.proofs.counts.mark.Given as goal

abbrev pub invariant-up : goal.invariant-up
invariant-up l = IsUp (length l.initial.counts / 2) l.i l.initial.counts l.counts × (1 < l.i → IsLate l.stands l.counts (l.i / 2))

abbrev pub decreases-up : goal.decreases-up
decreases-up l = l.i
