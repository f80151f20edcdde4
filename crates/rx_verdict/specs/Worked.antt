-- Worked journals: how many of their first events are lawful.
use Rattle.std.specs.Prelude.{pos, false, List, [], ◌∷◌}
use Rattle.rx_rules.specs.declared.events.Cell.TheVariants.{Make, Forget, GetRefused}
use Rattle.rx_rules.specs.declared.events.PlaceEvent.{PlaceEvent}
use Rattle.rx_rules.specs.declared.events.PlaceEvent.TheVariants.{Done, Close}
use Rattle.rx_rules.specs.Plays.{journal_at}
use Rattle.rx_rules.specs.Examples.{t, p, stale_reference_journals, full_heap_journals}
use Rattle.rx_verdict.specs.Lawful.{IsLawfulCount}

-- the journal with a stale reference, in which the block is called stale no more, but the index outside it
abbrev pub called_outside : List PlaceEvent
called_outside =
    Done (t 0) 0 (Make 3 0 1) (0 ∷ [])
    ∷ Done (t 0) 0 (Forget (record { home = p 0; start = 0; generation = 1 })) (1 ∷ [])
    ∷ Done (t 0) 0 (Make 3 0 2) (2 ∷ [])
    ∷ Done (t 0) 0 (GetRefused (record { home = p 0; start = 0; generation = 1 }) (pos 0) false) (3 ∷ [])
    ∷ []

-- a block of no words, which the law of stores alone would give
abbrev pub made_of_nothing : List PlaceEvent
made_of_nothing = Done (t 0) 0 (Make 0 0 1) (0 ∷ []) ∷ []

-- a stamp below the one before it
abbrev pub fallen_stamp : List PlaceEvent
fallen_stamp = Done (t 0) 2 (Make 1 0 1) (0 ∷ []) ∷ Done (t 0) 1 (Make 1 1 2) (1 ∷ []) ∷ []

-- an event after the close
abbrev pub asked_when_closed : List PlaceEvent
asked_when_closed = Close 3 ∷ Done (t 0) 3 (Make 1 0 1) (0 ∷ []) ∷ []

-- each has this many
pub record WorkedCounts : Type 0 where
  pub stale_reference : IsLawfulCount 256 (journal_at stale_reference_journals 0) 4
  pub full_heap : IsLawfulCount 8 (journal_at full_heap_journals 0) 5
  pub two_words : IsLawfulCount 2 (journal_at stale_reference_journals 0) 0
  pub outside : IsLawfulCount 256 called_outside 3
  pub nothing : IsLawfulCount 256 made_of_nothing 0
  pub fallen : IsLawfulCount 8 fallen_stamp 1
  pub closed : IsLawfulCount 8 asked_when_closed 1
