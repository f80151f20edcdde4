use Rattle.std.proofs.Common.{ℕ, ◌<◌, ◌≤◌, get_or}
use Rattle.rx_heap.specs.declared.block.Hole.{Hole}
use Rattle.rx_heap.proofs.holes.fitting_in.Given as goal

abbrev pub invariant-loop-i : goal.invariant-loop-i
invariant-loop-i l = (l.most < l.n) × ((k : ℕ) (d : Hole) → l.first ≤ k → k < l.i → (get_or l.holes k d).len ≤ l.most)
