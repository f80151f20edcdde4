-- What contracts see of a journal and of all journals.
use Rattle.std.specs.Prelude.{ℕ, List, map}
use Rattle.rx_rules.specs.declared.events.PlaceEvent.{PlaceEvent}

-- its events, and for how many more there is room
pub record Events : Type 0 where
  pub events : List PlaceEvent
  pub spare : ℕ

-- the journals in the order of the places, and for how many more there is room
pub record AllEvents : Type 0 where
  pub journals : List Events
  pub spare : ℕ

-- the events of each place
abbrev pub events_of : AllEvents → List (List PlaceEvent)
events_of a = map (λ j. j.events) a.journals
