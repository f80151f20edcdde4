-- What contracts see of a store, and what its journal tells.
use Rattle.std.specs.Prelude.{ℕ, Bool, true, false, List, [], ◌∷◌}
use Rattle.rx_base.specs.declared.ids.PlaceId.{PlaceId}
use Rattle.rx_rules.specs.declared.events.PlaceEvent.{PlaceEvent}
use Rattle.rx_rules.specs.declared.events.PlaceEvent.TheVariants.{Done, Close}
use Rattle.rx_rules.specs.Store.{State, opening_state, after_cell}

-- its place, the words of its heap, the events of its journal, and for how many more cell calls there is room
pub record StoreView : Type 0 where
  pub place : PlaceId
  pub words : ℕ
  pub events : List PlaceEvent
  pub spare : ℕ

-- the blocks after these events, from S on
abbrev pub state_from : State → List PlaceEvent → State
state_from S [] = S
state_from S (Done task stamp cell path ∷ es) = state_from (after_cell S cell) es
state_from S (Close stamp ∷ es) = state_from S es

-- the blocks that the events of a journal leave
abbrev pub state_of : List PlaceEvent → State
state_of es = state_from opening_state es

-- the last event is a close; without events it is so as told
abbrev pub closed_from : Bool → List PlaceEvent → Bool
closed_from b [] = b
closed_from b (Done task stamp cell path ∷ es) = closed_from false es
closed_from b (Close stamp ∷ es) = closed_from true es

-- the journal ends with a close
abbrev pub ends_closed : List PlaceEvent → Bool
ends_closed es = closed_from false es

-- the stamp of the last event, or s without events
abbrev pub stamp_from : ℕ → List PlaceEvent → ℕ
stamp_from s [] = s
stamp_from s (Done task stamp cell path ∷ es) = stamp_from stamp es
stamp_from s (Close stamp ∷ es) = stamp_from stamp es

-- the stamp of a journal's last event, 0 where it has none
abbrev pub last_stamp : List PlaceEvent → ℕ
last_stamp es = stamp_from 0 es
