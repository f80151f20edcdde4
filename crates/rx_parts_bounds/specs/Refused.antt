-- Wrong histories, each for one rule. But for the event after an end, which no change makes right, each is legal in all else.
use Rattle.std.specs.Prelude.{List, [], ◌∷◌, ◌++◌, take}
use Rattle.rx_rules.specs.declared.entries.Act.TheVariants.{End}
use Rattle.rx_rules.specs.declared.entries.Entry.TheVariants.{Step, Root, Death}
use Rattle.rx_rules.specs.declared.events.Cell.TheVariants.{Make}
use Rattle.rx_rules.specs.declared.events.PlaceEvent.{PlaceEvent}
use Rattle.rx_rules.specs.Examples.{t, p, m}
use Rattle.rx_rules.specs.Run.{Given}
use Rattle.rx_parts.specs.Ledger.{LedgerItem}
use Rattle.rx_parts.specs.Places.{MadeEvent, journal_of}
use Rattle.rx_parts_bounds.specs.Examples.{plain, makes, maker_arrives, maker_prints, maker_at_work, own_block}
use Rattle.rx_parts_bounds.specs.Examples.{makers_start, makers_print, makers_events}

-- Of the ledger.

-- the task prints, and its entry does not name the block that it had to make first
abbrev pub names_nothing : List LedgerItem
names_nothing = maker_arrives ++ maker_prints (0 ∷ []) [] ∷ []

-- a caller appends the entry who does not hold the task
abbrev pub by_another : List LedgerItem
by_another = maker_arrives ++ maker_prints [] own_block ∷ []

-- entry 4 names the block with stamp 5
abbrev pub names_later : List LedgerItem
names_later = maker_arrives ++ maker_prints (0 ∷ []) ((5, Make 4 0 1, 0 ∷ 0 ∷ 0 ∷ []) ∷ []) ∷ []

-- two places; place 1 dies at moment 2
abbrev pub late_death_setup : Given
late_death_setup = record { places = 2; heap = 256; kills = record { place = p 1; moment = 2 } ∷ []; joins = [] }

-- a place dies behind the release of the root
abbrev pub after_the_root : List LedgerItem
after_the_root =
    plain [] (Step (t 0) (End []) []) ∷ plain [] (Root (m 0) 0 []) ∷ plain [] (Death (p 1)) ∷ []

-- Of places. The first block of the task at place 1 is legal with stamp 4, its second with stamp 5 behind the first.

-- the first, with the number of the task's arrival as its stamp
abbrev pub made_early : MadeEvent
made_early = makes (3 ∷ []) (t 1) 3 (Make 4 0 1) (0 ∷ 0 ∷ 0 ∷ []) maker_arrives

-- the first, where the task has not arrived
abbrev pub made_on_the_way : MadeEvent
made_on_the_way = makes [] (t 1) 4 (Make 4 0 1) (0 ∷ 0 ∷ 0 ∷ []) (take 3 maker_arrives)

-- the first
abbrev pub made_first : MadeEvent
made_first = makes (3 ∷ []) (t 1) 4 (Make 4 0 1) (0 ∷ 0 ∷ 0 ∷ []) maker_arrives

-- the second
abbrev pub made_second : MadeEvent
made_second = makes (3 ∷ []) (t 1) 5 (Make 4 4 2) (0 ∷ 0 ∷ 2 ∷ []) maker_at_work

-- the second, of five words
abbrev pub made_larger : MadeEvent
made_larger = makes (3 ∷ []) (t 1) 5 (Make 5 4 2) (0 ∷ 0 ∷ 2 ∷ []) maker_at_work

-- the second, by the statement that made the first
abbrev pub made_twice : MadeEvent
made_twice = makes (3 ∷ []) (t 1) 5 (Make 4 4 2) (0 ∷ 0 ∷ 0 ∷ []) maker_at_work

-- the journal with the first
abbrev pub after_first : List PlaceEvent
after_first = journal_of (made_first ∷ [])

-- the event of task 0 beside it, by the caller of task 1
abbrev pub made_by_another : MadeEvent
made_by_another = makes (4 ∷ []) (t 0) 2 (Make 2 0 1) (0 ∷ 1 ∷ []) makers_start

-- an event of task 1 after its end
abbrev pub made_after_the_end : MadeEvent
made_after_the_end = makes (4 ∷ []) (t 1) 5 (Make 2 4 3) (0 ∷ 0 ∷ 2 ∷ []) (makers_start ++ makers_print)

-- the journal with the events of both
abbrev pub after_both : List PlaceEvent
after_both = journal_of makers_events

-- the later event has the lower stamp
abbrev pub stamps_fall : List MadeEvent
stamps_fall =
    makes [] (t 0) 3 (Make 2 0 1) (0 ∷ 1 ∷ []) makers_start
    ∷ makes (4 ∷ []) (t 1) 2 (Make 2 2 2) (0 ∷ 0 ∷ 0 ∷ []) makers_start
    ∷ []

-- the place has seen an entry of task 1 at the first event, and at the next it has not
abbrev pub forgets_an_entry : List MadeEvent
forgets_an_entry =
    makes [] (t 0) 3 (Make 2 0 1) (0 ∷ 1 ∷ []) (makers_start ++ take 1 makers_print)
    ∷ makes (4 ∷ []) (t 1) 3 (Make 2 2 2) (0 ∷ 0 ∷ 0 ∷ []) makers_start
    ∷ []
