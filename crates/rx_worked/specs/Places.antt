-- Worked histories of places that join, and of what tasks know of them.
use Rattle.std.specs.Prelude.{ℕ, pos, List, [], ◌∷◌}
use Rattle.rx_base.specs.declared.values.Fault.TheVariants.{NoPlace}
use Rattle.rx_rules.specs.declared.entries.Act.TheVariants.{Spawn, Arrive, End, Print, Census as Counted}
use Rattle.rx_rules.specs.declared.entries.Entry.{Entry}
use Rattle.rx_rules.specs.declared.entries.Entry.TheVariants.{Step, Root, Death, Join}
use Rattle.rx_rules.specs.declared.events.PlaceEvent.{PlaceEvent}
use Rattle.rx_rules.specs.declared.events.PlaceEvent.TheVariants.{Close}
use Rattle.rx_rules.specs.Code.{Block, Nothing, Then, Num, Name, Print as Prints, Census, Async, AtAsync}
use Rattle.rx_rules.specs.Run.{Given}
use Rattle.rx_rules.specs.Examples.{t, s, p, m}

-- at 1 async { }
abbrev pub away_script : Block
away_script = Then (AtAsync (Num (pos 1)) Nothing) Nothing

-- census n; at 1 async { }
abbrev pub counted_script : Block
counted_script = Then (Census 0) away_script

-- async { at 1 async { } } census n;
abbrev pub child_script : Block
child_script = Then (Async away_script) (Then (Census 0) Nothing)

-- census n; print n;
abbrev pub number_script : Block
number_script = Then (Census 0) (Then (Prints (Name 0)) Nothing)

-- one place, and one that joins at this moment
abbrev pub joined_setup : ℕ → Given
joined_setup moment = record { places = 1; heap = 256; kills = []; joins = moment ∷ [] }

-- two places; place 1 dies at moment 0
abbrev pub dead_setup : Given
dead_setup = record { places = 2; heap = 256; kills = record { place = p 1; moment = 0 } ∷ []; joins = [] }

-- the journals of two places whose stores were never asked
abbrev pub no_events : List (List PlaceEvent)
no_events =
    [] ∷ [] ∷ []

-- a place has joined, and the task, which has not counted, does not know it
abbrev pub never_counted : List Entry
never_counted =
    Join (p 1)
    ∷ Step (t 0) (End (NoPlace ∷ [])) ((0 ∷ []) ∷ [])
    ∷ Root (m 0) 0 (NoPlace ∷ [])
    ∷ []

-- a place joins after the census, and the task does not know it
abbrev pub joined_since : List Entry
joined_since =
    Step (t 0) (Counted 1 (0 ∷ [])) []
    ∷ Join (p 1)
    ∷ Step (t 0) (End (NoPlace ∷ [])) ((1 ∷ []) ∷ [])
    ∷ Root (m 0) 0 (NoPlace ∷ [])
    ∷ []

-- a place joins before the census, and the task starts a task there
abbrev pub joined_before : List Entry
joined_before =
    Join (p 1)
    ∷ Step (t 0) (Counted 2 (0 ∷ [])) []
    ∷ Step (t 0) (Spawn (t 1) (s 0) (p 0) (p 1) (1 ∷ [])) []
    ∷ Step (t 0) (End []) []
    ∷ Step (t 1) (Arrive (p 1)) []
    ∷ Step (t 1) (End []) []
    ∷ Root (m 0) 0 []
    ∷ []

-- the starter counts after it has started its task, and the task does not know the place
abbrev pub counted_later : List Entry
counted_later =
    Join (p 1)
    ∷ Step (t 0) (Spawn (t 1) (s 0) (p 0) (p 0) (0 ∷ [])) []
    ∷ Step (t 0) (Counted 2 (1 ∷ [])) []
    ∷ Step (t 0) (End []) []
    ∷ Step (t 1) (End (NoPlace ∷ [])) ((0 ∷ 0 ∷ []) ∷ [])
    ∷ Root (m 0) 0 (NoPlace ∷ [])
    ∷ []

-- the place never joins, and the task starts a task at its own place
abbrev pub never_joined : List Entry
never_joined =
    Step (t 0) (Print (pos 0) (0 ∷ [])) []
    ∷ Step (t 0) (Counted 1 (1 ∷ [])) []
    ∷ Step (t 0) (Spawn (t 1) (s 0) (p 0) (p 0) (2 ∷ [])) []
    ∷ Step (t 0) (End []) []
    ∷ Step (t 1) (Print (pos 0) (2 ∷ 0 ∷ [])) []
    ∷ Step (t 1) (End []) []
    ∷ Root (m 0) 0 []
    ∷ []

-- a census counts the dead place too
abbrev pub counts_dead : List Entry
counts_dead =
    Death (p 1)
    ∷ Step (t 0) (Counted 2 (0 ∷ [])) []
    ∷ Step (t 0) (Print (pos 2) (1 ∷ [])) []
    ∷ Step (t 0) (End []) []
    ∷ Root (m 0) 0 []
    ∷ []

-- its journals
abbrev pub counts_dead_journals : List (List PlaceEvent)
counts_dead_journals =
    [] ∷ (Close 0 ∷ []) ∷ []

-- a census leaves out the dead place
abbrev pub counts_living : List Entry
counts_living =
    Death (p 1)
    ∷ Step (t 0) (Counted 1 (0 ∷ [])) []
    ∷ []

-- a task starts a task at a place that has joined and that it does not know
abbrev pub starts_unknown : List Entry
starts_unknown =
    Join (p 1)
    ∷ Step (t 0) (Spawn (t 1) (s 0) (p 0) (p 1) (0 ∷ [])) []
    ∷ Step (t 0) (End []) []
    ∷ Step (t 1) (Arrive (p 1)) []
    ∷ Step (t 1) (End []) []
    ∷ Root (m 0) 0 []
    ∷ []
