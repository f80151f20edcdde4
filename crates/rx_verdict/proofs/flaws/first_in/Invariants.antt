use Rattle.std.proofs.Common.{ℕ, ◌<◌, slice_get}
use Rattle.rx_verdict.specs.Marked.{row_at}
use Rattle.rx_verdict.specs.Flaws.{CauseAt}
use Rattle.rx_verdict.proofs.flaws.first_in.Given as goal

abbrev pub invariant-loop-number : goal.invariant-loop-number
invariant-loop-number l = (e : ℕ) → e < l.number → CauseAt l.death (row_at l.marks l.place.0) e (slice_get l.journal.events e)
