use Rattle.std.proofs.Common.{◌/◌, length}
use Rattle.rx_rank.proofs.Adding.{IsDown}
use Rattle.rx_rank.proofs.counts.add_all.Given as goal

abbrev pub invariant-down : goal.invariant-down
invariant-down l = IsDown (length l.initial.counts / 2) l.i l.initial.counts l.counts

abbrev pub decreases-down : goal.decreases-down
decreases-down l = l.i
