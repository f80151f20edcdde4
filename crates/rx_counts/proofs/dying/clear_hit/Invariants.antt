use Rattle.std.proofs.Common.{◌≡◌, ℕ, ◌<◌, ◌≤◌, cond, length, slice_index_or}
use Rattle.rx_counts.specs.Inside.Dying.{hits_cell, hit_sum}
use Rattle.rx_counts.proofs.dying.clear_hit.Given as goal

abbrev pub invariant-loop-cell : goal.invariant-loop-cell
invariant-loop-cell l = record {
  len : length l.counts ≡ length l.initial.counts;
  sum : l.sum ≡ hit_sum l.places l.d.0 l.initial.counts l.cell;
  below : (k : ℕ) → k < l.cell → slice_index_or l.counts k 0 ≡ cond (hits_cell l.places l.d.0 k) 0 (slice_index_or l.initial.counts k 0);
  above : (k : ℕ) → l.cell ≤ k → slice_index_or l.counts k 0 ≡ slice_index_or l.initial.counts k 0;
}
