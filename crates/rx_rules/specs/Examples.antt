-- Worked histories: scripts, setups, histories and journals whose every entry and event is told.
use Rattle.std.specs.Prelude.{ℕ, pos, true, false, List, [], ◌∷◌}
use Rattle.rx_base.specs.declared.ids.PlaceId.{PlaceId}
use Rattle.rx_base.specs.declared.ids.TaskId.{TaskId}
use Rattle.rx_base.specs.declared.ids.ScopeId.{ScopeId}
use Rattle.rx_base.specs.declared.place_set.PlaceSet.{PlaceSet}
use Rattle.rx_base.specs.declared.values.Fault.TheVariants.{Dead, Thrown, Stale}
use Rattle.rx_rules.specs.declared.entries.Act.TheVariants.{Open, At as Calls, Spawn, Arrive, Wait, Release, End, Print, Census as Counted}
use Rattle.rx_rules.specs.declared.entries.Entry.{Entry}
use Rattle.rx_rules.specs.declared.entries.Entry.TheVariants.{Step, Root, Death, Join}
use Rattle.rx_rules.specs.declared.events.Cell.TheVariants.{Make, MakeFull, Forget as Forgets, GetRefused}
use Rattle.rx_rules.specs.declared.events.PlaceEvent.{PlaceEvent}
use Rattle.rx_rules.specs.declared.events.PlaceEvent.TheVariants.{Done, Close}
use Rattle.rx_rules.specs.Code.{Block, Nothing, Then, Sub, Num, Name, Here, Bin, New, Get, Forget, Print as Prints, Throw, Census}
use Rattle.rx_rules.specs.Code.{AtAsync, At, Finish, Try}
use Rattle.rx_rules.specs.Run.{Given}

-- tasks, scopes and places by number, and the set of places with this mask

abbrev pub t : ℕ → TaskId
t n = record { 0 = n }

abbrev pub s : ℕ → ScopeId
s n = record { 0 = n }

abbrev pub p : ℕ → PlaceId
p n = record { 0 = n }

abbrev pub m : ℕ → PlaceSet
m n = record { 0 = n }

-- finish { at 1 async { print 7; } } print 8;
abbrev pub ordinary_script : Block
ordinary_script =
    Then (Finish (Then (AtAsync (Num (pos 1)) (Then (Prints (Num (pos 7))) Nothing)) Nothing))
    (Then (Prints (Num (pos 8))) Nothing)

-- try { finish { at 1 async { finish { at 2 async { finish { at 3 async { print 1; } } } } } } } catch dead { } print 2;
abbrev pub adoption_script : Block
adoption_script =
    Then (Try (Then (Finish (Then (AtAsync (Num (pos 1))
    (Then (Finish (Then (AtAsync (Num (pos 2))
    (Then (Finish (Then (AtAsync (Num (pos 3)) (Then (Prints (Num (pos 1))) Nothing)) Nothing)) Nothing)) Nothing))
    Nothing)) Nothing)) Nothing) true Nothing)
    (Then (Prints (Num (pos 2))) Nothing)

-- try { at 1 { finish { at 2 async { print 1; } } } } catch dead { print 9; } print 2;
abbrev pub orphan_script : Block
orphan_script =
    Then (Try (Then (At (Num (pos 1))
    (Then (Finish (Then (AtAsync (Num (pos 2)) (Then (Prints (Num (pos 1))) Nothing)) Nothing)) Nothing)) Nothing) true
    (Then (Prints (Num (pos 9))) Nothing))
    (Then (Prints (Num (pos 2))) Nothing)

-- try { finish { at 1 async { at 2 async { print 1; } } } } catch dead { print 9; }
abbrev pub source_script : Block
source_script =
    Then (Try (Then (Finish (Then (AtAsync (Num (pos 1))
    (Then (AtAsync (Num (pos 2)) (Then (Prints (Num (pos 1))) Nothing)) Nothing)) Nothing)) Nothing) true
    (Then (Prints (Num (pos 9))) Nothing))
    Nothing

-- new r = 3; forget r; new q = 3; get x = r[0];
abbrev pub stale_script : Block
stale_script = Then (New 0 3) (Then (Forget 0) (Then (New 1 3) (Then (Get 2 0 (Num (pos 0))) Nothing)))

-- new a = 4; new b = 4; forget a; try { new c = 5; } catch { print 1; } new d = 4;
abbrev pub full_script : Block
full_script = Then (New 0 4) (Then (New 1 4) (Then (Forget 0)
    (Then (Try (Then (New 2 5) Nothing) false (Then (Prints (Num (pos 1))) Nothing)) (Then (New 3 4) Nothing))))

-- try { finish { at 1 async { finish { at 2 async { throw 5; } } } } } catch dead { print 9; }
abbrev pub masked_script : Block
masked_script =
    Then (Try (Then (Finish (Then (AtAsync (Num (pos 1)) (Then (Finish (Then (AtAsync (Num (pos 2))
    (Then (Throw (Num (pos 5))) Nothing)) Nothing)) Nothing)) Nothing)) Nothing) true
    (Then (Prints (Num (pos 9))) Nothing)) Nothing

-- print here; census n; at (n - 1) async { print here; }
abbrev pub joining_script : Block
joining_script =
    Then (Prints Here) (Then (Census 0)
    (Then (AtAsync (Bin Sub (Name 0) (Num (pos 1))) (Then (Prints Here) Nothing)) Nothing))

-- two places
abbrev pub ordinary_setup : Given
ordinary_setup = record { places = 2; heap = 256; kills = []; joins = [] }

-- place 1 dies at moment 3
abbrev pub kill_setup : Given
kill_setup = record { places = 2; heap = 256; kills = record { place = p 1; moment = 3 } ∷ []; joins = [] }

-- four places; place 2 dies at moment 12
abbrev pub adoption_setup : Given
adoption_setup = record { places = 4; heap = 256; kills = record { place = p 2; moment = 12 } ∷ []; joins = [] }

-- four places; place 3 dies at moment 12 and place 2 at moment 13
abbrev pub two_kills_setup : Given
two_kills_setup = record {
  places = 4;
  heap = 256;
  kills = record { place = p 3; moment = 12 } ∷ record {
    place = p 2;
    moment = 13;
  } ∷ [];
  joins = [];
}

-- three places; place 1 dies at moment 6
abbrev pub orphan_setup : Given
orphan_setup = record { places = 3; heap = 256; kills = record { place = p 1; moment = 6 } ∷ []; joins = [] }

-- three places; place 1 dies at moment 6
abbrev pub source_setup : Given
source_setup = record { places = 3; heap = 256; kills = record { place = p 1; moment = 6 } ∷ []; joins = [] }

-- heaps of eight words
abbrev pub full_setup : Given
full_setup = record { places = 2; heap = 8; kills = []; joins = [] }

-- three places; place 1 dies at moment 8
abbrev pub masked_setup : Given
masked_setup = record { places = 3; heap = 256; kills = record { place = p 1; moment = 8 } ∷ []; joins = [] }

-- one place, and one that joins at moment 1
abbrev pub joining_setup : Given
joining_setup = record { places = 1; heap = 256; kills = []; joins = 1 ∷ [] }

-- two places; one joins at moment 0 and dies at once
abbrev pub brief_setup : Given
brief_setup = record { places = 2; heap = 256; kills = record { place = p 2; moment = 0 } ∷ []; joins = 0 ∷ [] }

-- two places, and one that joins at moment 5 and dies at this moment
abbrev pub joiner_setup : ℕ → Given
joiner_setup m = record { places = 2; heap = 256; kills = record { place = p 2; moment = m } ∷ []; joins = 5 ∷ [] }

-- the ordinary case
abbrev pub ordinary_case : List Entry
ordinary_case =
    Step (t 0) (Open (s 1) (s 0) (0 ∷ [])) []
    ∷ Step (t 0) (Spawn (t 1) (s 1) (p 0) (p 1) (0 ∷ 0 ∷ [])) []
    ∷ Step (t 0) (Wait (s 1) []) []
    ∷ Step (t 1) (Arrive (p 1)) []
    ∷ Step (t 1) (Print (pos 7) (0 ∷ 0 ∷ 0 ∷ [])) []
    ∷ Step (t 1) (End []) []
    ∷ Step (t 0) (Release (s 1) (m 0) 0 []) []
    ∷ Step (t 0) (Print (pos 8) (1 ∷ [])) []
    ∷ Step (t 0) (End []) []
    ∷ Root (m 0) 0 []
    ∷ []

-- its journals
abbrev pub ordinary_case_journals : List (List PlaceEvent)
ordinary_case_journals =
    [] ∷ [] ∷ []

-- place 1 dies while the task travels to it
abbrev pub loss_in_transit : List Entry
loss_in_transit =
    Step (t 0) (Open (s 1) (s 0) (0 ∷ [])) []
    ∷ Step (t 0) (Spawn (t 1) (s 1) (p 0) (p 1) (0 ∷ 0 ∷ [])) []
    ∷ Step (t 0) (Wait (s 1) []) []
    ∷ Death (p 1)
    ∷ Step (t 0) (Release (s 1) (m 2) 0 []) []
    ∷ Step (t 0) (End (Dead (p 1) ∷ [])) []
    ∷ Root (m 0) 0 (Dead (p 1) ∷ [])
    ∷ []

-- its journals
abbrev pub loss_in_transit_journals : List (List PlaceEvent)
loss_in_transit_journals =
    [] ∷ (Close 3 ∷ []) ∷ []

-- place 2 dies, and the nearest living scope adopts the task at place 3
abbrev pub adoption : List Entry
adoption =
    Step (t 0) (Open (s 1) (s 0) (0 ∷ 0 ∷ 0 ∷ [])) ((0 ∷ []) ∷ [])
    ∷ Step (t 0) (Spawn (t 1) (s 1) (p 0) (p 1) (0 ∷ 0 ∷ 0 ∷ 0 ∷ [])) []
    ∷ Step (t 0) (Wait (s 1) []) []
    ∷ Step (t 1) (Arrive (p 1)) []
    ∷ Step (t 1) (Open (s 2) (s 1) (0 ∷ 0 ∷ 0 ∷ 0 ∷ 0 ∷ [])) []
    ∷ Step (t 1) (Spawn (t 2) (s 2) (p 1) (p 2) (0 ∷ 0 ∷ 0 ∷ 0 ∷ 0 ∷ 0 ∷ [])) []
    ∷ Step (t 1) (Wait (s 2) []) []
    ∷ Step (t 2) (Arrive (p 2)) []
    ∷ Step (t 2) (Open (s 3) (s 2) (0 ∷ 0 ∷ 0 ∷ 0 ∷ 0 ∷ 0 ∷ 0 ∷ [])) []
    ∷ Step (t 2) (Spawn (t 3) (s 3) (p 2) (p 3) (0 ∷ 0 ∷ 0 ∷ 0 ∷ 0 ∷ 0 ∷ 0 ∷ 0 ∷ [])) []
    ∷ Step (t 2) (Wait (s 3) []) []
    ∷ Step (t 3) (Arrive (p 3)) []
    ∷ Death (p 2)
    ∷ Step (t 3) (Print (pos 1) (0 ∷ 0 ∷ 0 ∷ 0 ∷ 0 ∷ 0 ∷ 0 ∷ 0 ∷ 0 ∷ [])) []
    ∷ Step (t 3) (End []) []
    ∷ Step (t 1) (Release (s 2) (m 4) 0 []) []
    ∷ Step (t 1) (End (Dead (p 2) ∷ [])) []
    ∷ Step (t 0) (Release (s 1) (m 0) 0 (Dead (p 2) ∷ [])) []
    ∷ Step (t 0) (Print (pos 2) (1 ∷ [])) []
    ∷ Step (t 0) (End []) []
    ∷ Root (m 0) 0 []
    ∷ []

-- its journals
abbrev pub adoption_journals : List (List PlaceEvent)
adoption_journals =
    [] ∷ [] ∷ (Close 12 ∷ []) ∷ [] ∷ []

-- places 3 and 2 die, and one release names both
abbrev pub two_losses : List Entry
two_losses =
    Step (t 0) (Open (s 1) (s 0) (0 ∷ 0 ∷ 0 ∷ [])) ((0 ∷ []) ∷ [])
    ∷ Step (t 0) (Spawn (t 1) (s 1) (p 0) (p 1) (0 ∷ 0 ∷ 0 ∷ 0 ∷ [])) []
    ∷ Step (t 0) (Wait (s 1) []) []
    ∷ Step (t 1) (Arrive (p 1)) []
    ∷ Step (t 1) (Open (s 2) (s 1) (0 ∷ 0 ∷ 0 ∷ 0 ∷ 0 ∷ [])) []
    ∷ Step (t 1) (Spawn (t 2) (s 2) (p 1) (p 2) (0 ∷ 0 ∷ 0 ∷ 0 ∷ 0 ∷ 0 ∷ [])) []
    ∷ Step (t 1) (Wait (s 2) []) []
    ∷ Step (t 2) (Arrive (p 2)) []
    ∷ Step (t 2) (Open (s 3) (s 2) (0 ∷ 0 ∷ 0 ∷ 0 ∷ 0 ∷ 0 ∷ 0 ∷ [])) []
    ∷ Step (t 2) (Spawn (t 3) (s 3) (p 2) (p 3) (0 ∷ 0 ∷ 0 ∷ 0 ∷ 0 ∷ 0 ∷ 0 ∷ 0 ∷ [])) []
    ∷ Step (t 2) (Wait (s 3) []) []
    ∷ Step (t 3) (Arrive (p 3)) []
    ∷ Death (p 3)
    ∷ Death (p 2)
    ∷ Step (t 1) (Release (s 2) (m 12) 0 []) []
    ∷ Step (t 1) (End (Dead (p 2) ∷ Dead (p 3) ∷ [])) []
    ∷ Step (t 0) (Release (s 1) (m 0) 0 (Dead (p 2) ∷ Dead (p 3) ∷ [])) []
    ∷ Step (t 0) (Print (pos 2) (1 ∷ [])) []
    ∷ Step (t 0) (End []) []
    ∷ Root (m 0) 0 []
    ∷ []

-- its journals
abbrev pub two_losses_journals : List (List PlaceEvent)
two_losses_journals =
    [] ∷ [] ∷ (Close 13 ∷ []) ∷ (Close 12 ∷ []) ∷ []

-- the callee is lost, and the at waits for the task that it left behind
abbrev pub at_waits : List Entry
at_waits =
    Step (t 0) (Calls (p 0) (p 1) (s 1) (s 0) (t 1) (0 ∷ 0 ∷ 0 ∷ [])) ((0 ∷ []) ∷ [])
    ∷ Step (t 1) (Arrive (p 1)) []
    ∷ Step (t 1) (Open (s 2) (s 1) (0 ∷ 0 ∷ 0 ∷ 0 ∷ [])) []
    ∷ Step (t 1) (Spawn (t 2) (s 2) (p 1) (p 2) (0 ∷ 0 ∷ 0 ∷ 0 ∷ 0 ∷ [])) []
    ∷ Step (t 1) (Wait (s 2) []) []
    ∷ Step (t 2) (Arrive (p 2)) []
    ∷ Death (p 1)
    ∷ Step (t 2) (Print (pos 1) (0 ∷ 0 ∷ 0 ∷ 0 ∷ 0 ∷ 0 ∷ [])) []
    ∷ Step (t 2) (End []) []
    ∷ Step (t 0) (Release (s 1) (m 2) 0 []) []
    ∷ Step (t 0) (Print (pos 9) (0 ∷ 1 ∷ 0 ∷ [])) []
    ∷ Step (t 0) (Print (pos 2) (1 ∷ [])) []
    ∷ Step (t 0) (End []) []
    ∷ Root (m 0) 0 []
    ∷ []

-- its journals
abbrev pub at_waits_journals : List (List PlaceEvent)
at_waits_journals =
    [] ∷ (Close 6 ∷ []) ∷ [] ∷ []

-- a task travels on from place 1 when that dies
abbrev pub source_dies : List Entry
source_dies =
    Step (t 0) (Open (s 1) (s 0) (0 ∷ 0 ∷ 0 ∷ [])) ((0 ∷ []) ∷ [])
    ∷ Step (t 0) (Spawn (t 1) (s 1) (p 0) (p 1) (0 ∷ 0 ∷ 0 ∷ 0 ∷ [])) []
    ∷ Step (t 0) (Wait (s 1) []) []
    ∷ Step (t 1) (Arrive (p 1)) []
    ∷ Step (t 1) (Spawn (t 2) (s 1) (p 1) (p 2) (0 ∷ 0 ∷ 0 ∷ 0 ∷ 0 ∷ [])) []
    ∷ Step (t 1) (End []) []
    ∷ Death (p 1)
    ∷ Step (t 0) (Release (s 1) (m 2) 0 []) []
    ∷ Step (t 0) (Print (pos 9) (0 ∷ 1 ∷ 0 ∷ [])) []
    ∷ Step (t 0) (End []) []
    ∷ Root (m 0) 0 []
    ∷ []

-- its journals
abbrev pub source_dies_journals : List (List PlaceEvent)
source_dies_journals =
    [] ∷ (Close 6 ∷ []) ∷ [] ∷ []

-- the block was forgotten, and another stands at its start
abbrev pub stale_reference : List Entry
stale_reference =
    Step (t 0) (End (Stale ∷ [])) ((0 ∷ []) ∷ (1 ∷ []) ∷ (2 ∷ []) ∷ (3 ∷ []) ∷ [])
    ∷ Root (m 0) 0 (Stale ∷ [])
    ∷ []

-- its journals
abbrev pub stale_reference_journals : List (List PlaceEvent)
stale_reference_journals =
    (Done (t 0) 0 (Make 3 0 1) (0 ∷ [])
    ∷ Done (t 0) 0 (Forgets (record { home = p 0; start = 0; generation = 1 })) (1 ∷ [])
    ∷ Done (t 0) 0 (Make 3 0 2) (2 ∷ [])
    ∷ Done (t 0) 0 (GetRefused (record { home = p 0; start = 0; generation = 1 }) (pos 0) true) (3 ∷ [])
    ∷ [])
    ∷ [] ∷ []

-- no hole has five words
abbrev pub full_heap : List Entry
full_heap =
    Step (t 0) (Print (pos 1) (3 ∷ 1 ∷ 0 ∷ [])) ((0 ∷ []) ∷ (1 ∷ []) ∷ (2 ∷ []) ∷ (3 ∷ []) ∷ (3 ∷ 0 ∷ 0 ∷ []) ∷ [])
    ∷ Step (t 0) (End []) ((4 ∷ []) ∷ [])
    ∷ Root (m 0) 0 []
    ∷ []

-- its journals
abbrev pub full_heap_journals : List (List PlaceEvent)
full_heap_journals =
    (Done (t 0) 0 (Make 4 0 1) (0 ∷ [])
    ∷ Done (t 0) 0 (Make 4 4 2) (1 ∷ [])
    ∷ Done (t 0) 0 (Forgets (record { home = p 0; start = 0; generation = 1 })) (2 ∷ [])
    ∷ Done (t 0) 0 (MakeFull 5) (3 ∷ 0 ∷ 0 ∷ [])
    ∷ Done (t 0) 1 (Make 4 0 3) (4 ∷ [])
    ∷ [])
    ∷ [] ∷ []

-- the finish that adopts a task counts the fault with which it ended, and does not show it
abbrev pub masked_fault : List Entry
masked_fault =
    Step (t 0) (Open (s 1) (s 0) (0 ∷ 0 ∷ 0 ∷ [])) ((0 ∷ []) ∷ [])
    ∷ Step (t 0) (Spawn (t 1) (s 1) (p 0) (p 1) (0 ∷ 0 ∷ 0 ∷ 0 ∷ [])) []
    ∷ Step (t 0) (Wait (s 1) []) []
    ∷ Step (t 1) (Arrive (p 1)) []
    ∷ Step (t 1) (Open (s 2) (s 1) (0 ∷ 0 ∷ 0 ∷ 0 ∷ 0 ∷ [])) []
    ∷ Step (t 1) (Spawn (t 2) (s 2) (p 1) (p 2) (0 ∷ 0 ∷ 0 ∷ 0 ∷ 0 ∷ 0 ∷ [])) []
    ∷ Step (t 1) (Wait (s 2) []) []
    ∷ Step (t 2) (Arrive (p 2)) []
    ∷ Death (p 1)
    ∷ Step (t 2) (End (Thrown (pos 5) ∷ [])) ((0 ∷ 0 ∷ 0 ∷ 0 ∷ 0 ∷ 0 ∷ 0 ∷ []) ∷ [])
    ∷ Step (t 0) (Release (s 1) (m 2) 1 []) []
    ∷ Step (t 0) (Print (pos 9) (0 ∷ 1 ∷ 0 ∷ [])) []
    ∷ Step (t 0) (End []) []
    ∷ Root (m 0) 0 []
    ∷ []

-- its journals
abbrev pub masked_fault_journals : List (List PlaceEvent)
masked_fault_journals =
    [] ∷ (Close 8 ∷ []) ∷ [] ∷ []

-- a place joins, a task counts the places, and starts a task at the new one
abbrev pub joining_place : List Entry
joining_place =
    Step (t 0) (Print (pos 0) (0 ∷ [])) []
    ∷ Join (p 1)
    ∷ Step (t 0) (Counted 2 (1 ∷ [])) []
    ∷ Step (t 0) (Spawn (t 1) (s 0) (p 0) (p 1) (2 ∷ [])) []
    ∷ Step (t 0) (End []) []
    ∷ Step (t 1) (Arrive (p 1)) []
    ∷ Step (t 1) (Print (pos 1) (2 ∷ 0 ∷ [])) []
    ∷ Step (t 1) (End []) []
    ∷ Root (m 0) 0 []
    ∷ []

-- its journals
abbrev pub joining_place_journals : List (List PlaceEvent)
joining_place_journals =
    [] ∷ [] ∷ []

-- of a join and a death that are due at once the join comes first
abbrev pub brief_place : List Entry
brief_place =
    Join (p 2)
    ∷ Death (p 2)
    ∷ Step (t 0) (End []) []
    ∷ Root (m 0) 0 []
    ∷ []

-- its journals
abbrev pub brief_place_journals : List (List PlaceEvent)
brief_place_journals =
    [] ∷ [] ∷ (Close 1 ∷ []) ∷ []

-- a release does not count the fault of a task that its scope has adopted
abbrev pub hides_masked_fault : List Entry
hides_masked_fault =
    Step (t 0) (Open (s 1) (s 0) (0 ∷ 0 ∷ 0 ∷ [])) ((0 ∷ []) ∷ [])
    ∷ Step (t 0) (Spawn (t 1) (s 1) (p 0) (p 1) (0 ∷ 0 ∷ 0 ∷ 0 ∷ [])) []
    ∷ Step (t 0) (Wait (s 1) []) []
    ∷ Step (t 1) (Arrive (p 1)) []
    ∷ Step (t 1) (Open (s 2) (s 1) (0 ∷ 0 ∷ 0 ∷ 0 ∷ 0 ∷ [])) []
    ∷ Step (t 1) (Spawn (t 2) (s 2) (p 1) (p 2) (0 ∷ 0 ∷ 0 ∷ 0 ∷ 0 ∷ 0 ∷ [])) []
    ∷ Step (t 1) (Wait (s 2) []) []
    ∷ Step (t 2) (Arrive (p 2)) []
    ∷ Death (p 1)
    ∷ Step (t 2) (End (Thrown (pos 5) ∷ [])) ((0 ∷ 0 ∷ 0 ∷ 0 ∷ 0 ∷ 0 ∷ 0 ∷ []) ∷ [])
    ∷ Step (t 0) (Release (s 1) (m 2) 0 []) []
    ∷ []

-- a place joins out of its turn
abbrev pub skips_a_place : List Entry
skips_a_place =
    Join (p 2)
    ∷ []

-- a census counts a place that has not joined
abbrev pub counts_too_many : List Entry
counts_too_many =
    Step (t 0) (Counted 2 (0 ∷ [])) []
    ∷ []

-- a finish is released while its task travels
abbrev pub early_release : List Entry
early_release =
    Step (t 0) (Open (s 1) (s 0) (0 ∷ [])) []
    ∷ Step (t 0) (Spawn (t 1) (s 1) (p 0) (p 1) (0 ∷ 0 ∷ [])) []
    ∷ Step (t 0) (Wait (s 1) []) []
    ∷ Step (t 0) (Release (s 1) (m 0) 0 []) []
    ∷ []

-- a message is run although its source has died
abbrev pub runs_struck_message : List Entry
runs_struck_message =
    Step (t 0) (Open (s 1) (s 0) (0 ∷ 0 ∷ 0 ∷ [])) ((0 ∷ []) ∷ [])
    ∷ Step (t 0) (Spawn (t 1) (s 1) (p 0) (p 1) (0 ∷ 0 ∷ 0 ∷ 0 ∷ [])) []
    ∷ Step (t 0) (Wait (s 1) []) []
    ∷ Step (t 1) (Arrive (p 1)) []
    ∷ Step (t 1) (Spawn (t 2) (s 1) (p 1) (p 2) (0 ∷ 0 ∷ 0 ∷ 0 ∷ 0 ∷ [])) []
    ∷ Step (t 1) (End []) []
    ∷ Death (p 1)
    ∷ Step (t 2) (Arrive (p 2)) []
    ∷ []

-- a release names the place of a task that had ended before the death
abbrev pub names_finished_task : List Entry
names_finished_task =
    Step (t 0) (Open (s 1) (s 0) (0 ∷ [])) []
    ∷ Step (t 0) (Spawn (t 1) (s 1) (p 0) (p 1) (0 ∷ 0 ∷ [])) []
    ∷ Step (t 0) (Wait (s 1) []) []
    ∷ Step (t 1) (Arrive (p 1)) []
    ∷ Step (t 1) (Print (pos 7) (0 ∷ 0 ∷ 0 ∷ [])) []
    ∷ Step (t 1) (End []) []
    ∷ Death (p 1)
    ∷ Step (t 0) (Release (s 1) (m 2) 0 []) []
    ∷ []

-- a release drops a loss that it has adopted
abbrev pub drops_adopted_losses : List Entry
drops_adopted_losses =
    Step (t 0) (Open (s 1) (s 0) (0 ∷ 0 ∷ 0 ∷ [])) ((0 ∷ []) ∷ [])
    ∷ Step (t 0) (Spawn (t 1) (s 1) (p 0) (p 1) (0 ∷ 0 ∷ 0 ∷ 0 ∷ [])) []
    ∷ Step (t 0) (Wait (s 1) []) []
    ∷ Step (t 1) (Arrive (p 1)) []
    ∷ Step (t 1) (Open (s 2) (s 1) (0 ∷ 0 ∷ 0 ∷ 0 ∷ 0 ∷ [])) []
    ∷ Step (t 1) (Spawn (t 2) (s 2) (p 1) (p 2) (0 ∷ 0 ∷ 0 ∷ 0 ∷ 0 ∷ 0 ∷ [])) []
    ∷ Step (t 1) (Wait (s 2) []) []
    ∷ Step (t 2) (Arrive (p 2)) []
    ∷ Step (t 2) (Open (s 3) (s 2) (0 ∷ 0 ∷ 0 ∷ 0 ∷ 0 ∷ 0 ∷ 0 ∷ [])) []
    ∷ Step (t 2) (Spawn (t 3) (s 3) (p 2) (p 3) (0 ∷ 0 ∷ 0 ∷ 0 ∷ 0 ∷ 0 ∷ 0 ∷ 0 ∷ [])) []
    ∷ Step (t 2) (Wait (s 3) []) []
    ∷ Step (t 3) (Arrive (p 3)) []
    ∷ Death (p 3)
    ∷ Death (p 2)
    ∷ Step (t 1) (Release (s 2) (m 4) 0 []) []
    ∷ []
