-- Where the events of one task stand in a journal.
use Rattle.std.specs.Prelude.{◌≡◌, ◌⊎◌, ℕ, List, length, drop, Some, slice_get}
use Rattle.std.specs.List.{filter_map}
use Rattle.rx_rules.specs.declared.events.Cell.{Cell}
use Rattle.rx_rules.specs.declared.events.PlaceEvent.{PlaceEvent}
use Rattle.rx_rules.specs.declared.events.PlaceEvent.TheVariants.{Done}
use Rattle.rx_rules.specs.Plays.{cell_of}

-- an event of task t stands at position e
abbrev pub IsOf : ℕ → List PlaceEvent → ℕ → Type 0
IsOf t j e = (stamp : ℕ) × (cell : Cell) × (path : List ℕ) × (slice_get j e ≡ Some (Done (record { 0 = t }) stamp cell path))

-- e is the position of the first event of task t from a position on, or the length of the journal where there is none
pub record IsFirst (t : ℕ) (j : List PlaceEvent) (from e : ℕ) : Type 0 where
  pub here : (e ≡ length j) ⊎ IsOf t j e
  pub same : filter_map (cell_of t) (drop e j) ≡ filter_map (cell_of t) (drop from j)
