-- A history of one place that tells both ways of an `if`. No run does so, but the place's history alone is legal: it ties an event to
-- the entries of its own task that the place had seen, and task 0 makes no event after its entry.
use Rattle.std.specs.Prelude.{ℤ, pos, List, [], ◌∷◌}
use Rattle.rx_base.specs.declared.ids.GlobalRef.{GlobalRef}
use Rattle.rx_rules.specs.declared.entries.Act.TheVariants.{Spawn}
use Rattle.rx_rules.specs.declared.entries.Entry.TheVariants.{Step}
use Rattle.rx_rules.specs.declared.events.Cell.{Cell}
use Rattle.rx_rules.specs.declared.events.Cell.TheVariants.{Make, Get as Gets}
use Rattle.rx_rules.specs.Code.{Block, Nothing, Then, Num, Name, New, Get, Async, If}
use Rattle.rx_rules.specs.Examples.{t, s, p}
use Rattle.rx_parts.specs.Ledger.{LedgerItem}
use Rattle.rx_parts.specs.Places.{MadeEvent}
use Rattle.rx_parts_bounds.specs.Examples.{makes}

-- new a = 1; new b = 1; new c = 1;
abbrev pub three_blocks : Block
three_blocks = Then (New 2 1) (Then (New 3 1) (Then (New 4 1) Nothing))

-- new r = 1; get x = r[0]; if x { three blocks } else { async { three blocks } }
abbrev pub ways_script : Block
ways_script =
    Then (New 0 1) (Then (Get 1 0 (Num (pos 0))) (Then (If (Name 1) three_blocks (Then (Async three_blocks) Nothing)) Nothing))

-- its first block, and what the task reads in it
abbrev pub first_ref : GlobalRef
first_ref = record { home = p 0; start = 0; generation = 1 }

abbrev pub reads : ℤ → Cell
reads value = Gets first_ref (pos 0) value

-- the ledger is told that the task has read 0, and so has started a task
abbrev pub reads_zero : List LedgerItem
reads_zero =
    record {
      by = [];
      entry =
          Step (t 0) (Spawn (t 1) (s 0) (p 0) (p 0) (2 ∷ 1 ∷ 0 ∷ [])) ((0 ∷ []) ∷ (1 ∷ []) ∷ (2 ∷ []) ∷ []);
      events = (0, Make 1 0 1, 0 ∷ []) ∷ (0, reads (pos 0), 1 ∷ []) ∷ [];
      holder = 0 ∷ [];
      seat = 4 ∷ [];
    }
    ∷ []

-- the place tells that it has read 1, and so has made three blocks, and then what the other task makes
abbrev pub ways_events : List MadeEvent
ways_events =
    makes [] (t 0) 0 (Make 1 0 1) (0 ∷ []) []
    ∷ makes [] (t 0) 0 (reads (pos 1)) (1 ∷ []) []
    ∷ makes [] (t 0) 0 (Make 1 1 2) (2 ∷ 0 ∷ 0 ∷ []) []
    ∷ makes [] (t 0) 0 (Make 1 2 3) (2 ∷ 0 ∷ 1 ∷ []) []
    ∷ makes [] (t 0) 0 (Make 1 3 4) (2 ∷ 0 ∷ 2 ∷ []) []
    ∷ makes (4 ∷ []) (t 1) 1 (Make 1 4 5) (2 ∷ 1 ∷ 0 ∷ 0 ∷ []) reads_zero
    ∷ makes (4 ∷ []) (t 1) 1 (Make 1 5 6) (2 ∷ 1 ∷ 0 ∷ 1 ∷ []) reads_zero
    ∷ makes (4 ∷ []) (t 1) 1 (Make 1 6 7) (2 ∷ 1 ∷ 0 ∷ 2 ∷ []) reads_zero
    ∷ []
