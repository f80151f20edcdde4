-- Short histories on which the laws compute.
use Rattle.std.specs.Prelude.{ℕ, pos, List, [], ◌∷◌, ◌++◌}
use Rattle.rx_base.specs.declared.ids.PlaceId.{PlaceId}
use Rattle.rx_base.specs.declared.ids.TaskId.{TaskId}
use Rattle.rx_base.specs.declared.ids.ScopeId.{ScopeId}
use Rattle.rx_base.specs.declared.place_set.PlaceSet.{PlaceSet}
use Rattle.rx_base.specs.declared.values.Fault.TheVariants.{Dead}
use Rattle.rx_rules.specs.declared.entries.Act.TheVariants.{Open, Spawn, Arrive, Wait, Release, End, Print as Prints}
use Rattle.rx_rules.specs.declared.entries.Entry.{Entry}
use Rattle.rx_rules.specs.declared.entries.Entry.TheVariants.{Step, Root, Death}
use Rattle.rx_rules.specs.declared.events.Cell.TheVariants.{MakeFull}
use Rattle.rx_rules.specs.declared.events.PlaceEvent.{PlaceEvent}
use Rattle.rx_rules.specs.declared.events.PlaceEvent.TheVariants.{Done}
use Rattle.rx_rules.specs.Code.{Block, Nothing, Then, Num, Finish, AtAsync, Print}

-- task n
abbrev pub task : ℕ → TaskId
task n = record { 0 = n }

-- scope n
abbrev pub scope : ℕ → ScopeId
scope n = record { 0 = n }

-- place n
abbrev pub place : ℕ → PlaceId
place n = record { 0 = n }

-- the set of places with this mask
abbrev pub places : ℕ → PlaceSet
places n = record { 0 = n }

-- finish { at 1 async { print 7; } } print 8;
abbrev pub script : Block
script =
    Then (Finish (Then (AtAsync (Num (pos 1)) (Then (Print (Num (pos 7))) Nothing)) Nothing))
    (Then (Print (Num (pos 8))) Nothing)

-- the finish is opened, its child is on its way, and its body has ended
abbrev pub start : List Entry
start =
    Step (task 0) (Open (scope 1) (scope 0) (0 ∷ [])) []
    ∷ Step (task 0) (Spawn (task 1) (scope 1) (place 0) (place 1) (0 ∷ 0 ∷ [])) []
    ∷ Step (task 0) (Wait (scope 1) []) []
    ∷ []

-- the child arrives, prints and ends
abbrev pub child_entries : List Entry
child_entries =
    Step (task 1) (Arrive (place 1)) []
    ∷ Step (task 1) (Prints (pos 7) (0 ∷ 0 ∷ 0 ∷ [])) []
    ∷ Step (task 1) (End []) []
    ∷ []

-- the first task prints and ends, and the root is released
abbrev pub close : List Entry
close =
    Step (task 0) (Prints (pos 8) (1 ∷ [])) []
    ∷ Step (task 0) (End []) []
    ∷ Root (places 0) 0 []
    ∷ []

-- the finish is released, with these losses
abbrev pub released : ℕ → List Entry
released lost = Step (task 0) (Release (scope 1) (places lost) 0 []) [] ∷ []

-- a run without deaths
abbrev pub ordinary : List Entry
ordinary = start ++ child_entries ++ released 0 ++ close

-- a run in which the child is lost on its way to place 1
abbrev pub lost_in_transit : List Entry
lost_in_transit =
    start
    ++ Death (place 1)
    ∷ Step (task 0) (Release (scope 1) (places 2) 0 []) []
    ∷ Step (task 0) (End (Dead (place 1) ∷ [])) []
    ∷ Root (places 0) 0 (Dead (place 1) ∷ [])
    ∷ []

-- the finish is released while the child is on its way
abbrev pub early : List Entry
early = start ++ released 0

-- the finish is released while the child is at place 1
abbrev pub early_at_work : List Entry
early_at_work = start ++ Step (task 1) (Arrive (place 1)) [] ∷ released 0

-- another place dies, which is no end of the child's way
abbrev pub early_elsewhere : List Entry
early_elsewhere = start ++ Death (place 2) ∷ released 0

-- the child is lost and not named
abbrev pub unnamed : List Entry
unnamed = start ++ Death (place 1) ∷ released 0

-- the place of a child that had ended is named
abbrev pub names_finished : List Entry
names_finished = start ++ child_entries ++ Death (place 1) ∷ released 2

-- the root names a loss that the finish inside it has named
abbrev pub named_again : List Entry
named_again = start ++ Death (place 1) ∷ released 2 ++ Root (places 2) 0 [] ∷ []

-- a release that masks a fault names a lost place
abbrev pub masks_with_loss : Entry
masks_with_loss = Step (task 0) (Release (scope 1) (places 2) 1 []) []

-- it names none
abbrev pub masks_without_loss : Entry
masks_without_loss = Step (task 0) (Release (scope 1) (places 0) 1 []) []

-- nor does the root's
abbrev pub root_masks_without_loss : Entry
root_masks_without_loss = Root (places 0) 1 []

-- a task tells its print twice
abbrev pub twice_by_one : List Entry
twice_by_one = ordinary ++ Step (task 0) (Prints (pos 8) (1 ∷ [])) [] ∷ []

-- two tasks tell one print
abbrev pub twice_by_two : List Entry
twice_by_two = start ++ child_entries ++ Step (task 0) (Prints (pos 7) (0 ∷ 0 ∷ 0 ∷ [])) [] ∷ []

-- a batch holds the statement of its own entry
abbrev pub twice_in_entry : List Entry
twice_in_entry = Step (task 0) (Prints (pos 8) (1 ∷ [])) ((1 ∷ []) ∷ []) ∷ []

-- the last print stands before the print for which the finish waits
abbrev pub print_too_soon : List Entry
print_too_soon = start ++ close ++ child_entries

-- the last print stands in the batch of an entry before that print
abbrev pub batch_too_soon : List Entry
batch_too_soon =
    Step (task 0) (Open (scope 1) (scope 0) (0 ∷ [])) []
    ∷ Step (task 0) (Wait (scope 1) []) ((1 ∷ []) ∷ [])
    ∷ child_entries

-- two places without events
abbrev pub no_events : List (List PlaceEvent)
no_events = [] ∷ [] ∷ []

-- an event of the last statement, in the journal of place 1, before one of the statement for which the finish waits
abbrev pub event_too_soon : List (List PlaceEvent)
event_too_soon =
    []
    ∷ (Done (task 0) 0 (MakeFull 1) (1 ∷ []) ∷ Done (task 1) 0 (MakeFull 1) (0 ∷ 0 ∷ 0 ∷ []) ∷ [])
    ∷ []
