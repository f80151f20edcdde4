use Rattle.std.proofs.Common.{◌≡◌, ◌+◌, ◌-◌, ◌≤◌, length, drop}
use Rattle.rx_span.specs.Inside.Sorting.{shared}
use Rattle.rx_span.proofs.paths.shared.Given as goal

-- the numbers below `at` are the same
abbrev pub invariant-loop-at : goal.invariant-loop-at
invariant-loop-at l = (shared l.x l.y ≡ l.at + shared (drop l.at l.x) (drop l.at l.y)) × (l.at ≤ length l.x) × (l.at ≤ length l.y)

abbrev pub decreases-loop-at : goal.decreases-loop-at
decreases-loop-at l = length l.x - l.at
