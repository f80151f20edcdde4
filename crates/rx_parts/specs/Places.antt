-- Histories of a place's book: events, each with its caller and with the ledger's history that the place had seen.
use Rattle.std.specs.Prelude.{◌≡◌, ℕ, ◌≤◌, List, [], ◌∷◌, ◌++◌, map, Some, slice_get}
use Rattle.std.specs.List.{filter_map}
use mathlib.Core.List.{IsPrefix}
use Rattle.rx_base.specs.declared.ids.TaskId.{TaskId}
use Rattle.rx_rules.specs.declared.events.Cell.{Cell}
use Rattle.rx_rules.specs.declared.events.PlaceEvent.{PlaceEvent}
use Rattle.rx_rules.specs.declared.events.PlaceEvent.TheVariants.{Done as Did}
use Rattle.rx_rules.specs.Code.{Block}
use Rattle.rx_rules.specs.Terms.{Answer, does, begins}
use Rattle.rx_rules.specs.Plays.{Cells, Tells, cell_of}
use Rattle.rx_rules.specs.Run.{Given}
use Rattle.rx_runs.specs.Segments.{Stand}
use Rattle.rx_parts.specs.Ledger.{LedgerItem, Actor, Present, Walks, LegalLedger}

-- an event of a task, its caller, and what the place had seen of the ledger's history; a close is none
pub record MadeEvent : Type 0 where
  pub by : List ℕ
  pub task : TaskId
  pub stamp : ℕ
  pub cell : Cell
  pub path : List ℕ
  pub carried : List LedgerItem

-- the event alone
abbrev pub event_of : MadeEvent → PlaceEvent
event_of m = Did m.task m.stamp m.cell m.path

-- the events alone
abbrev pub journal_of : List MadeEvent → List PlaceEvent
journal_of k = map event_of k

-- The event m may come next at place p. The carried history is legal; in it the task is at p, and m is by the caller that it
-- names. The task's earlier events here are those that its entries there name, and then some since. These lead its term to a
-- store call, and the event answers it. Its stamp is above the number of the last entry there that concerns the task.
pub record MayMake (code : Block) (U : Given) (p : ℕ) (before : List PlaceEvent) (m : MadeEvent) : Type 0 where
  pub legal : LegalLedger code U m.carried
  pub actor : Actor
  pub stands : slice_get legal.actors m.task.0 ≡ Some actor
  pub here : actor.phase ≡ Present
  pub place : actor.birth.to.0 ≡ p
  pub by : m.by ≡ actor.seat
  pub since : Cells
  pub earlier : filter_map (cell_of m.task.0) before ≡ actor.named ++ since
  pub stand : Stand
  pub walks : Walks actor.birth.to actor.stand since stand
  pub answer : Answer
  pub tells : Tells (does stand.vars actor.birth.to.0 stand.term) actor.birth.to m.cell answer
  pub begins : begins stand.term ≡ Some m.path
  pub above : actor.stand.low ≤ m.stamp

-- each event may come next, no stamp is below the one before, and what is carried begins with what was carried before
abbrev pub LegalFrom : Block → Given → ℕ → List PlaceEvent → ℕ → List LedgerItem → List MadeEvent → Type 0
LegalFrom code U p before low seen [] = Unit {0}
LegalFrom code U p before low seen (m ∷ k) =
    MayMake code U p before m × (low ≤ m.stamp) × IsPrefix seen m.carried
    × LegalFrom code U p (before ++ event_of m ∷ []) m.stamp m.carried k

-- a legal history of the book of place p
abbrev pub LegalPlace : Block → Given → ℕ → List MadeEvent → Type 0
LegalPlace code U p k = LegalFrom code U p [] 0 [] k

-- what the last event carries, or what was seen before
abbrev pub last_carried : List LedgerItem → List MadeEvent → List LedgerItem
last_carried seen [] = seen
last_carried seen (m ∷ k) = last_carried m.carried k

-- what a place has seen of the ledger's history
abbrev pub seen_by : List MadeEvent → List LedgerItem
seen_by k = last_carried [] k
