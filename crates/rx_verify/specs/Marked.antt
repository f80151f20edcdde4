-- Marks on the events that tasks have used.
use Rattle.std.specs.Prelude.{◌≡◌, ◌↔◌, ℕ, ◌<◌, ◌≤◌, Bool, true, false, List, [], ◌∷◌, Option, Some, None, slice_get}
use Rattle.rx_base.specs.declared.ids.TaskId.{TaskId}
use Rattle.rx_rules.specs.declared.entries.Act.{Act}
use Rattle.rx_rules.specs.declared.entries.Entry.{Entry}
use Rattle.rx_rules.specs.declared.events.Cell.{Cell}
use Rattle.rx_rules.specs.declared.events.PlaceEvent.{PlaceEvent}
use Rattle.rx_rules.specs.declared.events.PlaceEvent.TheVariants.{Done}
use Rattle.rx_rules.specs.Code.{Block}
use Rattle.rx_rules.specs.Plays.{Moves, journal_at}
use Rattle.rx_rules.specs.Run.{Given}
use Rattle.rx_verdict.specs.Makes.{Between}
use Rattle.rx_verdict.specs.Marks.{WholePass}
use Rattle.rx_verdict.specs.Verdicts.{HasCause}
use Rattle.rx_verdict.specs.Marked.{marked, HasShape}
use Rattle.rx_verify.specs.declared.players.Slot.{Slot}
use Rattle.rx_verify.specs.declared.players.Slot.TheVariants.{Away, Here, Over}

-- what has become of event e of place p, of a task whose slot is this: it is left where the task is not born yet, or travels, or
-- has not come to it
abbrev pub IsLeft : Option Slot → ℕ → ℕ → Type 0
IsLeft None p e = Unit {0}
IsLeft (Some (Away seat)) p e = Unit {0}
IsLeft (Some (Here seat)) p e = p ≡ seat.value.home.0 → seat.value.position ≤ e
IsLeft (Some Over) p e = ⊥

-- Events that are left are not marked. One that is not left is marked exactly where it has its cause, with its stamp between the
-- entries of its task, if these entries are all allowed and made.
pub record MarksAre (code : Block) (U : Given) (es : List Entry) (js : List (List PlaceEvent)) (slots : List Slot)
    (ms : List (List Bool)) : Type 0 where
  pub shape : HasShape js ms
  pub left : (p e : ℕ) (task : TaskId) (stamp : ℕ) (cell : Cell) (path : List ℕ)
      → slice_get (journal_at js p) e ≡ Some (Done task stamp cell path) → IsLeft (slice_get slots task.0) p e
      → marked ms p e ≡ false
  pub used : (p e : ℕ) (task : TaskId) (stamp : ℕ) (cell : Cell) (path : List ℕ)
      → slice_get (journal_at js p) e ≡ Some (Done task stamp cell path) → (IsLeft (slice_get slots task.0) p e → ⊥)
      → WholePass code U es js → HasCause Between code U es js p e ↔ (marked ms p e ≡ true)

-- `last` is the number of the first of these entries of a task, or none where there is none
abbrev pub IsNextOf : Option ℕ → Moves → Type 0
IsNextOf None moves = moves ≡ []
IsNextOf (Some n) moves = (act : Act) × (batch : List (List ℕ)) × (more : Moves) × (moves ≡ (n, act, batch) ∷ more)

-- a stamp from low to last
abbrev pub InReach : ℕ → Option ℕ → ℕ → Type 0
InReach low None stamp = low ≤ stamp
InReach low (Some last) stamp = (low ≤ stamp) × (stamp ≤ last)

-- Of task t's events at place p, from one position to another, those are marked whose stamps are in reach; nothing else changes.
pub record MarksUsed (js : List (List PlaceEvent)) (old new : List (List Bool)) (p t from to low : ℕ) (last : Option ℕ) : Type 0 where
  pub shape : HasShape js new
  pub mine : (e stamp : ℕ) (cell : Cell) (path : List ℕ) → from ≤ e → e < to
      → slice_get (journal_at js p) e ≡ Some (Done (record { 0 = t }) stamp cell path) → marked old p e ≡ false
      → InReach low last stamp ↔ (marked new p e ≡ true)
  pub others : (q e : ℕ) (task : TaskId) (stamp : ℕ) (cell : Cell) (path : List ℕ)
      → slice_get (journal_at js q) e ≡ Some (Done task stamp cell path)
      → (q ≡ p → task.0 ≡ t → from ≤ e → e < to → ⊥) → marked new q e ≡ marked old q e
