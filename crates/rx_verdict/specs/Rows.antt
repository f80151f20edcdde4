-- Worked pairs: a history and its journals, each with its verdict. Most change one thing in a worked history of rx_rules.
use Rattle.std.specs.Prelude.{ℕ, pos, false, List, [], ◌∷◌}
use Rattle.rx_rules.specs.declared.entries.Act.TheVariants.{Open, Spawn, Arrive, Wait, Release, End, Print}
use Rattle.rx_rules.specs.declared.entries.Entry.{Entry}
use Rattle.rx_rules.specs.declared.entries.Entry.TheVariants.{Step, Root}
use Rattle.rx_rules.specs.declared.events.Cell.TheVariants.{Make, Forget, GetRefused}
use Rattle.rx_rules.specs.declared.events.PlaceEvent.{PlaceEvent}
use Rattle.rx_rules.specs.declared.events.PlaceEvent.TheVariants.{Done, Close}
use Rattle.rx_rules.specs.Code.{Block, Nothing, Then, New}
use Rattle.rx_rules.specs.Examples.{t, s, p, m}
use Rattle.rx_rules.specs.Run.{Given}

-- the ordinary case with entries 5 and 6 exchanged: the finish is released before its task has ended
abbrev pub exchanged : List Entry
exchanged =
    Step (t 0) (Open (s 1) (s 0) (0 ∷ [])) []
    ∷ Step (t 0) (Spawn (t 1) (s 1) (p 0) (p 1) (0 ∷ 0 ∷ [])) []
    ∷ Step (t 0) (Wait (s 1) []) []
    ∷ Step (t 1) (Arrive (p 1)) []
    ∷ Step (t 1) (Print (pos 7) (0 ∷ 0 ∷ 0 ∷ [])) []
    ∷ Step (t 0) (Release (s 1) (m 0) 0 []) []
    ∷ Step (t 1) (End []) []
    ∷ Step (t 0) (Print (pos 8) (1 ∷ [])) []
    ∷ Step (t 0) (End []) []
    ∷ Root (m 0) 0 []
    ∷ []

-- two places without events
abbrev pub no_events : List (List PlaceEvent)
no_events =
    [] ∷ [] ∷ []

-- place 1 is closed at this moment, and no other event is told
abbrev pub closed_at : ℕ → List (List PlaceEvent)
closed_at n = [] ∷ (Close n ∷ []) ∷ []

-- the journals of the stale reference, where the last event says that the index is outside the block
abbrev pub wrong_refusal : List (List PlaceEvent)
wrong_refusal =
    (Done (t 0) 0 (Make 3 0 1) (0 ∷ [])
    ∷ Done (t 0) 0 (Forget (record { home = p 0; start = 0; generation = 1 })) (1 ∷ [])
    ∷ Done (t 0) 0 (Make 3 0 2) (2 ∷ [])
    ∷ Done (t 0) 0 (GetRefused (record { home = p 0; start = 0; generation = 1 }) (pos 0) false) (3 ∷ [])
    ∷ [])
    ∷ [] ∷ []

-- two places with heaps of so many words
abbrev pub heaps_of : ℕ → Given
heaps_of n = record { places = 2; heap = n; kills = []; joins = [] }

-- new r = 3;
abbrev pub new_script : Block
new_script = Then (New 0 3) Nothing

-- its one task makes the block and ends
abbrev pub new_case : List Entry
new_case =
    Step (t 0) (End []) ((0 ∷ []) ∷ [])
    ∷ Root (m 0) 0 []
    ∷ []

-- the event has this stamp
abbrev pub stamped : ℕ → List (List PlaceEvent)
stamped n = (Done (t 0) n (Make 3 0 1) (0 ∷ []) ∷ []) ∷ [] ∷ []
