-- The first event of a task from a position on stands in the journal.
use Rattle.std.proofs.Common.{ℕ, ◌≤◌, List, length, arith, inl, inr}
use Rattle.std.proofs.lemmas.Option.{slice_get_within}
use Rattle.rx_rules.specs.declared.events.PlaceEvent.{PlaceEvent}
use Rattle.rx_verify.specs.Events.{IsFirst}

pub at_most_length : (t : ℕ) (j : List PlaceEvent) (from e : ℕ) → IsFirst t j from e → e ≤ length j
at_most_length t j from e f = elim f.here [
  | inl end ↦ omega (arith, end)
  | inr is ↦ (let within = slice_get_within j e _ is.3 in omega (arith, within))
]
