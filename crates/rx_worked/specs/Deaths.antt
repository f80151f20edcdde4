-- Worked histories of deaths.
use Rattle.std.specs.Prelude.{◌≡◌, ℕ, pos, List, [], ◌∷◌}
use Rattle.rx_base.specs.declared.values.Fault.TheVariants.{Dead, Thrown}
use Rattle.rx_rules.specs.declared.entries.Act.TheVariants.{Open, At as Calls, Spawn, Arrive, Wait, Release, End, Print}
use Rattle.rx_rules.specs.declared.entries.Entry.{Entry}
use Rattle.rx_rules.specs.declared.entries.Entry.TheVariants.{Step, Root, Death}
use Rattle.rx_rules.specs.declared.events.Cell.TheVariants.{Make}
use Rattle.rx_rules.specs.declared.events.PlaceEvent.{PlaceEvent}
use Rattle.rx_rules.specs.declared.events.PlaceEvent.TheVariants.{Done, Close}
use Rattle.rx_rules.specs.Code.{Block, Nothing, Then, Num, New, Print as Prints, Async, At, Finish}
use Rattle.rx_rules.specs.Run.{Given, IsRun}
use Rattle.rx_rules.specs.Examples.{t, s, p, m, loss_in_transit}

-- finish { at 1 { async { print 5; } } print 6; }
abbrev pub async_inside_script : Block
async_inside_script = Then (Finish (Then (At (Num (pos 1)) (Then (Async (Then (Prints (Num (pos 5))) Nothing)) Nothing))
    (Then (Prints (Num (pos 6))) Nothing))) Nothing

-- print 1; new d = 4;
abbrev pub make_script : Block
make_script = Then (Prints (Num (pos 1))) (Then (New 0 4) Nothing)

-- two places; place 1 dies at moment 1
abbrev pub first_kill_setup : Given
first_kill_setup = record { places = 2; heap = 256; kills = record { place = p 1; moment = 1 } ∷ []; joins = [] }

-- two places; the death of place 1 is due where the ordinary case is over
abbrev pub late_kill_setup : Given
late_kill_setup = record { places = 2; heap = 256; kills = record { place = p 1; moment = 10 } ∷ []; joins = [] }

-- three places; places 1 and 2 die at moment 4
abbrev pub both_at_once_setup : Given
both_at_once_setup = record {
  places = 3;
  heap = 256;
  kills = record { place = p 1; moment = 4 } ∷ record {
    place = p 2;
    moment = 4;
  } ∷ [];
  joins = [];
}

-- three places; place 1 dies at moment 6 and place 2 at moment 7
abbrev pub both_die_setup : Given
both_die_setup = record {
  places = 3;
  heap = 256;
  kills = record { place = p 1; moment = 6 } ∷ record {
    place = p 2;
    moment = 7;
  } ∷ [];
  joins = [];
}

-- three places; place 1 dies at moment 9
abbrev pub held_fault_setup : Given
held_fault_setup = record { places = 3; heap = 256; kills = record { place = p 1; moment = 9 } ∷ []; joins = [] }

-- the scope outside a dead finish is released while the task at place 3 runs on
abbrev pub leaves_orphan : List Entry
leaves_orphan =
    Step (t 0) (Open (s 1) (s 0) (0 ∷ 0 ∷ 0 ∷ [])) ((0 ∷ []) ∷ [])
    ∷ Step (t 0) (Spawn (t 1) (s 1) (p 0) (p 1) (0 ∷ 0 ∷ 0 ∷ 0 ∷ [])) []
    ∷ Step (t 0) (Wait (s 1) []) []
    ∷ Step (t 1) (Arrive (p 1)) []
    ∷ Step (t 1) (Open (s 2) (s 1) (0 ∷ 0 ∷ 0 ∷ 0 ∷ 0 ∷ [])) []
    ∷ Step (t 1) (Spawn (t 2) (s 2) (p 1) (p 2) (0 ∷ 0 ∷ 0 ∷ 0 ∷ 0 ∷ 0 ∷ [])) []
    ∷ Step (t 1) (Wait (s 2) []) []
    ∷ Step (t 2) (Arrive (p 2)) []
    ∷ Step (t 2) (Open (s 3) (s 2) (0 ∷ 0 ∷ 0 ∷ 0 ∷ 0 ∷ 0 ∷ 0 ∷ [])) []
    ∷ Step (t 2) (Spawn (t 3) (s 3) (p 2) (p 3) (0 ∷ 0 ∷ 0 ∷ 0 ∷ 0 ∷ 0 ∷ 0 ∷ 0 ∷ [])) []
    ∷ Step (t 2) (Wait (s 3) []) []
    ∷ Step (t 3) (Arrive (p 3)) []
    ∷ Death (p 2)
    ∷ Step (t 1) (Release (s 2) (m 4) 0 []) []
    ∷ []

-- the callee is lost, and the at is released while the task that it left behind runs on
abbrev pub at_leaves_orphan : List Entry
at_leaves_orphan =
    Step (t 0) (Calls (p 0) (p 1) (s 1) (s 0) (t 1) (0 ∷ 0 ∷ 0 ∷ [])) ((0 ∷ []) ∷ [])
    ∷ Step (t 1) (Arrive (p 1)) []
    ∷ Step (t 1) (Open (s 2) (s 1) (0 ∷ 0 ∷ 0 ∷ 0 ∷ [])) []
    ∷ Step (t 1) (Spawn (t 2) (s 2) (p 1) (p 2) (0 ∷ 0 ∷ 0 ∷ 0 ∷ 0 ∷ [])) []
    ∷ Step (t 1) (Wait (s 2) []) []
    ∷ Step (t 2) (Arrive (p 2)) []
    ∷ Death (p 1)
    ∷ Step (t 0) (Release (s 1) (m 2) 0 []) []
    ∷ []

-- place 1 dies, and then a task is started for it
abbrev pub born_struck : List Entry
born_struck =
    Step (t 0) (Open (s 1) (s 0) (0 ∷ [])) []
    ∷ Death (p 1)
    ∷ Step (t 0) (Spawn (t 1) (s 1) (p 0) (p 1) (0 ∷ 0 ∷ [])) []
    ∷ Step (t 0) (Wait (s 1) []) []
    ∷ Step (t 0) (Release (s 1) (m 2) 0 []) []
    ∷ Step (t 0) (End (Dead (p 1) ∷ [])) []
    ∷ Root (m 0) 0 (Dead (p 1) ∷ [])
    ∷ []

-- its journals
abbrev pub born_struck_journals : List (List PlaceEvent)
born_struck_journals =
    [] ∷ (Close 1 ∷ []) ∷ []

-- a task that was started for a dead place arrives there
abbrev pub arrives_at_dead : List Entry
arrives_at_dead =
    Step (t 0) (Open (s 1) (s 0) (0 ∷ [])) []
    ∷ Death (p 1)
    ∷ Step (t 0) (Spawn (t 1) (s 1) (p 0) (p 1) (0 ∷ 0 ∷ [])) []
    ∷ Step (t 1) (Arrive (p 1)) []
    ∷ []

-- the at is released before the task that was started inside it prints, and the finish after that
abbrev pub at_and_async : List Entry
at_and_async =
    Step (t 0) (Open (s 1) (s 0) (0 ∷ [])) []
    ∷ Step (t 0) (Calls (p 0) (p 1) (s 2) (s 1) (t 1) (0 ∷ 0 ∷ [])) []
    ∷ Step (t 1) (Arrive (p 1)) []
    ∷ Step (t 1) (Spawn (t 2) (s 1) (p 1) (p 1) (0 ∷ 0 ∷ 0 ∷ [])) []
    ∷ Step (t 1) (End []) []
    ∷ Step (t 0) (Release (s 2) (m 0) 0 []) []
    ∷ Step (t 0) (Print (pos 6) (0 ∷ 1 ∷ [])) []
    ∷ Step (t 0) (Wait (s 1) []) []
    ∷ Step (t 2) (Print (pos 5) (0 ∷ 0 ∷ 0 ∷ 0 ∷ [])) []
    ∷ Step (t 2) (End []) []
    ∷ Step (t 0) (Release (s 1) (m 0) 0 []) []
    ∷ Step (t 0) (End []) []
    ∷ Root (m 0) 0 []
    ∷ []

-- its journals
abbrev pub at_and_async_journals : List (List PlaceEvent)
at_and_async_journals =
    [] ∷ [] ∷ []

-- the history of the loss in transit, whose death is entry 3, is no run where that death is due at entry 4
abbrev pub KillOneEntryEarly : Type 0
KillOneEntryEarly =
    (code : Block) (heap : ℕ) (js : List (List PlaceEvent)) → IsRun code (record {
      places = 2;
      heap = heap;
      kills = record { place = p 1; moment = 4 } ∷ [];
      joins = [];
    }) loss_in_transit js → ⊥

-- a block is made between two entries
abbrev pub makes_between : List Entry
makes_between =
    Step (t 0) (Print (pos 1) (0 ∷ [])) []
    ∷ Step (t 0) (End []) ((1 ∷ []) ∷ [])
    ∷ Root (m 0) 0 []
    ∷ []

-- its journals, where the event has this stamp
abbrev pub stamped : ℕ → List (List PlaceEvent)
stamped k = (Done (t 0) k (Make 4 0 1) (1 ∷ []) ∷ []) ∷ [] ∷ []

-- the event between entries 0 and 1 has stamp 1, neither 0 nor 2
abbrev pub StampIsBetween : Type 0
StampIsBetween = (U : Given) (k : ℕ) → IsRun make_script U makes_between (stamped k) → k ≡ 1

-- a task travels on from place 1 when that dies, and then the place dies to which it travelled
abbrev pub both_die : List Entry
both_die =
    Step (t 0) (Open (s 1) (s 0) (0 ∷ 0 ∷ 0 ∷ [])) ((0 ∷ []) ∷ [])
    ∷ Step (t 0) (Spawn (t 1) (s 1) (p 0) (p 1) (0 ∷ 0 ∷ 0 ∷ 0 ∷ [])) []
    ∷ Step (t 0) (Wait (s 1) []) []
    ∷ Step (t 1) (Arrive (p 1)) []
    ∷ Step (t 1) (Spawn (t 2) (s 1) (p 1) (p 2) (0 ∷ 0 ∷ 0 ∷ 0 ∷ 0 ∷ [])) []
    ∷ Step (t 1) (End []) []
    ∷ Death (p 1)
    ∷ Death (p 2)
    ∷ Step (t 0) (Release (s 1) (m 2) 0 []) []
    ∷ Step (t 0) (Print (pos 9) (0 ∷ 1 ∷ 0 ∷ [])) []
    ∷ Step (t 0) (End []) []
    ∷ Root (m 0) 0 []
    ∷ []

-- its journals
abbrev pub both_die_journals : List (List PlaceEvent)
both_die_journals =
    [] ∷ (Close 6 ∷ []) ∷ (Close 7 ∷ []) ∷ []

-- two deaths are due at one moment, and one stands after the other
abbrev pub both_at_once : List Entry
both_at_once =
    Step (t 0) (Open (s 1) (s 0) (0 ∷ [])) []
    ∷ Step (t 0) (Spawn (t 1) (s 1) (p 0) (p 1) (0 ∷ 0 ∷ [])) []
    ∷ Step (t 0) (Wait (s 1) []) []
    ∷ Step (t 1) (Arrive (p 1)) []
    ∷ Death (p 1)
    ∷ Death (p 2)
    ∷ Step (t 0) (Release (s 1) (m 2) 0 []) []
    ∷ Step (t 0) (End (Dead (p 1) ∷ [])) []
    ∷ Root (m 0) 0 (Dead (p 1) ∷ [])
    ∷ []

-- its journals
abbrev pub both_at_once_journals : List (List PlaceEvent)
both_at_once_journals =
    [] ∷ (Close 4 ∷ []) ∷ (Close 5 ∷ []) ∷ []

-- a finish dies that holds a fault, and the release outside it counts the fault
abbrev pub held_fault : List Entry
held_fault =
    Step (t 0) (Open (s 1) (s 0) (0 ∷ 0 ∷ 0 ∷ [])) ((0 ∷ []) ∷ [])
    ∷ Step (t 0) (Spawn (t 1) (s 1) (p 0) (p 1) (0 ∷ 0 ∷ 0 ∷ 0 ∷ [])) []
    ∷ Step (t 0) (Wait (s 1) []) []
    ∷ Step (t 1) (Arrive (p 1)) []
    ∷ Step (t 1) (Open (s 2) (s 1) (0 ∷ 0 ∷ 0 ∷ 0 ∷ 0 ∷ [])) []
    ∷ Step (t 1) (Spawn (t 2) (s 2) (p 1) (p 2) (0 ∷ 0 ∷ 0 ∷ 0 ∷ 0 ∷ 0 ∷ [])) []
    ∷ Step (t 1) (Wait (s 2) []) []
    ∷ Step (t 2) (Arrive (p 2)) []
    ∷ Step (t 2) (End (Thrown (pos 5) ∷ [])) ((0 ∷ 0 ∷ 0 ∷ 0 ∷ 0 ∷ 0 ∷ 0 ∷ []) ∷ [])
    ∷ Death (p 1)
    ∷ Step (t 0) (Release (s 1) (m 2) 1 []) []
    ∷ Step (t 0) (Print (pos 9) (0 ∷ 1 ∷ 0 ∷ [])) []
    ∷ Step (t 0) (End []) []
    ∷ Root (m 0) 0 []
    ∷ []

-- its journals
abbrev pub held_fault_journals : List (List PlaceEvent)
held_fault_journals =
    [] ∷ (Close 9 ∷ []) ∷ [] ∷ []
