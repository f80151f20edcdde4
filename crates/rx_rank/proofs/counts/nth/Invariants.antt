use Rattle.rx_rank.proofs.Adding.{IsNear}
use Rattle.rx_rank.proofs.counts.nth.Given as goal

abbrev pub invariant-levels : goal.invariant-levels
invariant-levels l = IsNear l.height l._level l.k l.i l.left l.counts
