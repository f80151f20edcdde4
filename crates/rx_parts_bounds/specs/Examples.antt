-- Worked histories in parts.
use Rattle.std.specs.Prelude.{ℕ, suc, pos, List, [], ◌∷◌, ◌++◌, map, replicate, take}
use Rattle.rx_base.specs.declared.ids.TaskId.{TaskId}
use Rattle.rx_base.specs.declared.values.Fault.TheVariants.{Dead}
use Rattle.rx_rules.specs.declared.entries.Act.TheVariants.{Open, Spawn, Arrive, Wait, Release, End, Print, Census as Counted}
use Rattle.rx_rules.specs.declared.entries.Entry.{Entry}
use Rattle.rx_rules.specs.declared.entries.Entry.TheVariants.{Step, Root, Death, Join}
use Rattle.rx_rules.specs.declared.events.Cell.{Cell}
use Rattle.rx_rules.specs.declared.events.Cell.TheVariants.{Make, MakeFull, Forget as Forgets}
use Rattle.rx_rules.specs.Code.{Block, Nothing, Then, Sub, Num, Name, Bin, New, Census, Print as Prints, Async, AtAsync, Finish}
use Rattle.rx_rules.specs.Plays.{Cells}
use Rattle.rx_rules.specs.Examples.{t, s, p, m, adoption, joining_place}
use Rattle.rx_rules.specs.Run.{Given}
use Rattle.rx_parts.specs.Ledger.{LedgerItem}
use Rattle.rx_parts.specs.Places.{MadeEvent}

-- an entry by this caller that names no event, starts no task and seats none
abbrev pub plain : List ℕ → Entry → LedgerItem
plain by entry = record { by = by; entry = entry; events = []; holder = []; seat = [] }

-- an event of task u, by this caller, after what the place had seen
abbrev pub makes : List ℕ → TaskId → ℕ → Cell → List ℕ → List LedgerItem → MadeEvent
makes by u stamp cell x seen = record { by = by; task = u; stamp = stamp; cell = cell; path = x; carried = seen }

-- an entry of a history in which each task starts the next, and no event is named: task n is held by the caller 0, 0, .., n times
abbrev pub in_chain : Entry → LedgerItem
in_chain (Step u act batch) =
    record { by = replicate u.0 0; entry = Step u act batch; events = []; holder = replicate (suc u.0) 0; seat = 7 ∷ [] }
in_chain e = plain [] e

-- the worked adoption, in which tasks are lost and no store is called
abbrev pub adoption_history : List LedgerItem
adoption_history = map in_chain adoption

-- the worked place that joins, is counted, and is where a task is started
abbrev pub joining_history : List LedgerItem
joining_history = map in_chain joining_place

-- finish { at 1 async { new a = 4; print 5; new b = 4; } }
abbrev pub maker_script : Block
maker_script =
    Then (Finish (Then (AtAsync (Num (pos 1)) (Then (New 0 4) (Then (Prints (Num (pos 5))) (Then (New 1 4) Nothing)))) Nothing)) Nothing

-- two places; place 1 dies at moment 5
abbrev pub maker_setup : Given
maker_setup = record { places = 2; heap = 256; kills = record { place = p 1; moment = 5 } ∷ []; joins = [] }

-- a task goes to place 1
abbrev pub maker_arrives : List LedgerItem
maker_arrives =
    plain [] (Step (t 0) (Open (s 1) (s 0) (0 ∷ [])) [])
    ∷ record {
      by = [];
      entry = Step (t 0) (Spawn (t 1) (s 1) (p 0) (p 1) (0 ∷ 0 ∷ [])) [];
      events = [];
      holder = 0 ∷ [];
      seat = [];
    }
    ∷ plain [] (Step (t 0) (Wait (s 1) []) [])
    ∷ record { by = 0 ∷ []; entry = Step (t 1) (Arrive (p 1)) []; events = []; holder = []; seat = 3 ∷ [] }
    ∷ []

-- it prints, by this caller, and names these events
abbrev pub maker_prints : List ℕ → Cells → LedgerItem
maker_prints by cells =
    record {
      by = by;
      entry = Step (t 1) (Print (pos 5) (0 ∷ 0 ∷ 1 ∷ [])) ((0 ∷ 0 ∷ 0 ∷ []) ∷ []);
      events = cells;
      holder = [];
      seat = [];
    }

-- the block that it makes before it prints
abbrev pub own_block : Cells
own_block = (4, Make 4 0 1, 0 ∷ 0 ∷ 0 ∷ []) ∷ []

-- it has made that block and prints
abbrev pub maker_at_work : List LedgerItem
maker_at_work = maker_arrives ++ maker_prints (0 ∷ []) own_block ∷ []

-- and is lost
abbrev pub maker_lost : List LedgerItem
maker_lost =
    plain [] (Death (p 1))
    ∷ plain [] (Step (t 0) (Release (s 1) (m 2) 0 []) [])
    ∷ plain [] (Step (t 0) (End (Dead (p 1) ∷ [])) [])
    ∷ plain (1 ∷ []) (Root (m 0) 0 (Dead (p 1) ∷ []))
    ∷ []

-- the events of place 1; no entry names the last
abbrev pub maker_events : List MadeEvent
maker_events =
    makes (3 ∷ []) (t 1) 4 (Make 4 0 1) (0 ∷ 0 ∷ 0 ∷ []) maker_arrives
    ∷ makes (3 ∷ []) (t 1) 5 (Make 4 4 2) (0 ∷ 0 ∷ 2 ∷ []) maker_at_work
    ∷ []

-- census n; finish { at (n - 1) async { new a = 4; } }
abbrev pub joined_script : Block
joined_script =
    Then (Census 0) (Then (Finish (Then (AtAsync (Bin Sub (Name 0) (Num (pos 1))) (Then (New 1 4) Nothing)) Nothing)) Nothing)

-- one place, and one that joins at moment 0 and dies at moment 6
abbrev pub joined_setup : Given
joined_setup = record { places = 1; heap = 256; kills = record { place = p 1; moment = 6 } ∷ []; joins = 0 ∷ [] }

-- a task goes to the place that has joined
abbrev pub joined_arrives : List LedgerItem
joined_arrives = map in_chain (
    Join (p 1)
    ∷ Step (t 0) (Counted 2 (0 ∷ [])) []
    ∷ Step (t 0) (Open (s 1) (s 0) (1 ∷ [])) []
    ∷ Step (t 0) (Spawn (t 1) (s 1) (p 0) (p 1) (1 ∷ 0 ∷ [])) []
    ∷ Step (t 0) (Wait (s 1) []) []
    ∷ Step (t 1) (Arrive (p 1)) []
    ∷ [])

-- and is lost there
abbrev pub joined_lost : List LedgerItem
joined_lost = map in_chain (
    Death (p 1)
    ∷ Step (t 0) (Release (s 1) (m 2) 0 []) []
    ∷ Step (t 0) (End (Dead (p 1) ∷ [])) []
    ∷ Root (m 0) 0 (Dead (p 1) ∷ [])
    ∷ [])

-- it has made a block after its last entry
abbrev pub joined_events : List MadeEvent
joined_events = makes (7 ∷ []) (t 1) 6 (Make 4 0 1) (1 ∷ 0 ∷ 0 ∷ []) joined_arrives ∷ []

-- finish { async { new a = 2; print 1; } new b = 2; print 2; }
abbrev pub makers_script : Block
makers_script =
    Then (Finish (Then (Async (Then (New 0 2) (Then (Prints (Num (pos 1))) Nothing)))
    (Then (New 1 2) (Then (Prints (Num (pos 2))) Nothing)))) Nothing

-- one place
abbrev pub makers_setup : Given
makers_setup = record { places = 1; heap = 256; kills = []; joins = [] }

-- two tasks are at one place
abbrev pub makers_start : List LedgerItem
makers_start =
    plain [] (Step (t 0) (Open (s 1) (s 0) (0 ∷ [])) [])
    ∷ record {
      by = [];
      entry = Step (t 0) (Spawn (t 1) (s 1) (p 0) (p 0) (0 ∷ 0 ∷ [])) [];
      events = [];
      holder = 0 ∷ [];
      seat = 4 ∷ [];
    }
    ∷ []

-- the later of their events is named first
abbrev pub makers_print : List LedgerItem
makers_print =
    record {
      by = 0 ∷ [];
      entry = Step (t 1) (Print (pos 1) (0 ∷ 0 ∷ 1 ∷ [])) ((0 ∷ 0 ∷ 0 ∷ []) ∷ []);
      events = (2, Make 2 2 2, 0 ∷ 0 ∷ 0 ∷ []) ∷ [];
      holder = [];
      seat = [];
    }
    ∷ record {
      by = [];
      entry = Step (t 0) (Print (pos 2) (0 ∷ 2 ∷ [])) ((0 ∷ 1 ∷ []) ∷ []);
      events = (2, Make 2 0 1, 0 ∷ 1 ∷ []) ∷ [];
      holder = [];
      seat = [];
    }
    ∷ plain (0 ∷ []) (Step (t 1) (End []) [])
    ∷ []

abbrev pub makers_end : List LedgerItem
makers_end =
    plain [] (Step (t 0) (Wait (s 1) []) [])
    ∷ plain [] (Step (t 0) (Release (s 1) (m 0) 0 []) [])
    ∷ plain [] (Step (t 0) (End []) [])
    ∷ plain [] (Root (m 0) 0 [])
    ∷ []

-- the events of place 0
abbrev pub makers_events : List MadeEvent
makers_events =
    makes [] (t 0) 2 (Make 2 0 1) (0 ∷ 1 ∷ []) makers_start
    ∷ makes (4 ∷ []) (t 1) 2 (Make 2 2 2) (0 ∷ 0 ∷ 0 ∷ []) makers_start
    ∷ []

-- the worked full heap: blocks are made, forgotten and refused before the entries that name them
abbrev pub full_history : List LedgerItem
full_history =
    record {
      by = [];
      entry =
          Step (t 0) (Print (pos 1) (3 ∷ 1 ∷ 0 ∷ []))
          ((0 ∷ []) ∷ (1 ∷ []) ∷ (2 ∷ []) ∷ (3 ∷ []) ∷ (3 ∷ 0 ∷ 0 ∷ []) ∷ []);
      events =
          (0, Make 4 0 1, 0 ∷ [])
          ∷ (0, Make 4 4 2, 1 ∷ [])
          ∷ (0, Forgets (record { home = p 0; start = 0; generation = 1 }), 2 ∷ [])
          ∷ (0, MakeFull 5, 3 ∷ 0 ∷ 0 ∷ [])
          ∷ [];
      holder = [];
      seat = [];
    }
    ∷ record {
      by = [];
      entry = Step (t 0) (End []) ((4 ∷ []) ∷ []);
      events = (1, Make 4 0 3, 4 ∷ []) ∷ [];
      holder = [];
      seat = [];
    }
    ∷ plain [] (Root (m 0) 0 [])
    ∷ []

-- the events of place 0
abbrev pub full_events : List MadeEvent
full_events =
    makes [] (t 0) 0 (Make 4 0 1) (0 ∷ []) []
    ∷ makes [] (t 0) 0 (Make 4 4 2) (1 ∷ []) []
    ∷ makes [] (t 0) 0 (Forgets (record { home = p 0; start = 0; generation = 1 })) (2 ∷ []) []
    ∷ makes [] (t 0) 0 (MakeFull 5) (3 ∷ 0 ∷ 0 ∷ []) []
    ∷ makes [] (t 0) 1 (Make 4 0 3) (4 ∷ []) (take 1 full_history)
    ∷ []
