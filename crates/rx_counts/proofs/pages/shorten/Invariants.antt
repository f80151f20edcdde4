use Rattle.std.proofs.Common.{◌≡◌, ℕ, None, vec_len, slice_index_or}
use Rattle.rx_counts.proofs.pages.shorten.Given as goal

abbrev pub invariant-loop-page : goal.invariant-loop-page
invariant-loop-page l = (k : ℕ) → slice_index_or l.page.items k None ≡ slice_index_or l.fn.page.items k None

abbrev pub decreases-loop-page : goal.decreases-loop-page
decreases-loop-page l = vec_len l.page
