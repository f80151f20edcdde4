use Rattle.std.proofs.Common.{◌≡◌, ℕ, ◌<◌, ◌≤◌, ◌+◌, length, slice_index_or}
use Rattle.rx_counts.proofs.dying.add_counts.Given as goal

abbrev pub invariant-loop-cell : goal.invariant-loop-cell
invariant-loop-cell l = record {
  len : length l.counts ≡ length l.initial.counts;
  below : (k : ℕ) → k < l.cell → slice_index_or l.counts k 0 ≡ slice_index_or l.initial.counts k 0 + slice_index_or l.given k 0;
  above : (k : ℕ) → l.cell ≤ k → slice_index_or l.counts k 0 ≡ slice_index_or l.initial.counts k 0;
}
