-- What may stand next in a journal, and what blocks have done then.
use Rattle.std.specs.Prelude.{◌↔◌, ℕ, ◌≤◌, Bool, true, false, IsTrue}
use Rattle.rx_rules.specs.declared.events.PlaceEvent.{PlaceEvent}
use Rattle.rx_rules.specs.declared.events.PlaceEvent.TheVariants.{Done, Close}
use Rattle.rx_rules.specs.Store.{State, MayCell, after_cell}
use Rattle.rx_store.specs.Table.{Table, TableStands}
use Rattle.rx_verdict.specs.Lawful.{CellAsksSome}

-- the event may stand next in the journal of a store of w words that has these blocks, that is not closed, and whose last stamp
-- is this one
abbrev pub MayFollow : ℕ → State → ℕ → PlaceEvent → Type 0
MayFollow w S last (Done task stamp cell path) = (last ≤ stamp) × CellAsksSome cell × MayCell w S cell
MayFollow w S last (Close stamp) = last ≤ stamp

-- the blocks after an event
abbrev pub state_after : State → PlaceEvent → State
state_after S (Done task stamp cell path) = after_cell S cell
state_after S (Close stamp) = S

-- the event is a close
abbrev pub is_close : PlaceEvent → Bool
is_close (Done task stamp cell path) = false
is_close (Close stamp) = true

-- in the state that the blocks stood for the event may stand next, exactly where it is so told, and then they have done what it tells
abbrev pub Follows : Table → Table → ℕ → PlaceEvent → Bool → Type 0
Follows old new last e b =
    (w : ℕ) (S : State) → TableStands w old S → (IsTrue b ↔ MayFollow w S last e) × (IsTrue b → TableStands w new (state_after S e))
