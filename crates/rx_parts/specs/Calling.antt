-- What a whole call of the ledger's book leaves, and what a call of a place's book needs and leaves.
use Rattle.std.specs.Prelude.{◌≡◌, ◌⊎◌, ℕ, ◌≤◌, List, [], ◌∷◌, ◌++◌, length, Some, slice_get}
use Rattle.std.specs.List.{filter_map}
use mathlib.Core.List.{IsPrefix}
use Rattle.rx_base.specs.declared.ids.PlaceId.{PlaceId}
use Rattle.rx_base.specs.declared.ids.TaskId.{TaskId}
use Rattle.rx_base.specs.declared.values.Fault.{Fault}
use Rattle.rx_rules.specs.declared.entries.Act.{Act}
use Rattle.rx_rules.specs.declared.entries.Act.TheVariants.{Arrive, End}
use Rattle.rx_rules.specs.declared.entries.Entry.TheVariants.{Step}
use Rattle.rx_rules.specs.declared.events.Cell.{Cell}
use Rattle.rx_rules.specs.declared.events.PlaceEvent.{PlaceEvent}
use Rattle.rx_rules.specs.Code.{Block}
use Rattle.rx_rules.specs.Terms.{Term, Answer, Does, Done, does, begins}
use Rattle.rx_rules.specs.Plays.{Cells, Fits, Tells, cell_of}
use Rattle.rx_rules.specs.Run.{Given, Folds}
use Rattle.rx_runs.specs.Segments.{Stand}
use Rattle.rx_parts.specs.Ledger.{LedgerItem, Actor, Away, Present, Walks, IsHostEntry, RootIsLast, LegalLedger, entries_of}
use Rattle.rx_parts.specs.Places.{MadeEvent, MayMake, LegalPlace, journal_of, seen_by}
use Rattle.rx_parts.specs.Closing.{StampedTo}
use Rattle.rx_parts.specs.Growing.{NoneBy, MayRequest}

-- A whole call of the ledger's book: the deaths and joins that were due, and then at most one entry more.

-- each item's entry is the host's
abbrev pub AllHostItems : List LedgerItem → Type 0
AllHostItems [] = Unit {0}
AllHostItems (i ∷ h) = IsHostEntry i.entry × AllHostItems h

-- the act is what grants a request d, or the end of the task
abbrev pub Grants : PlaceId → Term → Does → Act → Type 0
Grants here t d act = Fits here t d act ⊎ ((faults : List Fault) × (d ≡ Done faults) × (act ≡ End faults))

-- with what grants a request that may be made: where the entries are folds of the setup, the longer history is legal
abbrev pub CallStep : Type 0
CallStep = (code : Block) (U : Given) (h due : List LedgerItem) (i : LedgerItem) (t : TaskId) (act : Act) (batch : List (List ℕ))
    (d : Does) → (legal : LegalLedger code U h) → AllHostItems due → Folds U (entries_of (h ++ (due ++ i ∷ [])))
    → RootIsLast (entries_of (h ++ (due ++ i ∷ []))) → i.entry ≡ Step t act batch
    → (ask : MayRequest legal.actors (length h) i.by t i.events batch d) → Grants ask.actor.birth.to ask.stand.term d act
    → LegalLedger code U (h ++ (due ++ i ∷ []))

-- with entries of the host alone, the release of the root among them
abbrev pub HostStep : Type 0
HostStep = (code : Block) (U : Given) (h hosts : List LedgerItem) → LegalLedger code U h → AllHostItems hosts
    → Folds U (entries_of (h ++ hosts)) → RootIsLast (entries_of (h ++ hosts)) → LegalLedger code U (h ++ hosts)

-- with an arrival
abbrev pub ArrivalStep : Type 0
ArrivalStep = (code : Block) (U : Given) (h due : List LedgerItem) (i : LedgerItem) (t : TaskId) (p : PlaceId) (a : Actor)
    → (legal : LegalLedger code U h) → AllHostItems due → Folds U (entries_of (h ++ (due ++ i ∷ [])))
    → RootIsLast (entries_of (h ++ (due ++ i ∷ []))) → i.entry ≡ Step t (Arrive p) [] → slice_get legal.actors t.0 ≡ Some a
    → i.by ≡ a.holder → a.phase ≡ Away → i.events ≡ [] → LegalLedger code U (h ++ (due ++ i ∷ []))

-- A call of a place's book.

-- the last stamp, or `low` where there is none
abbrev pub top_stamp : ℕ → List MadeEvent → ℕ
top_stamp low [] = low
top_stamp low (m ∷ k) = top_stamp m.stamp k

-- in a legal history of a place no stamp is above the last
abbrev pub TopStamp : Type 0
TopStamp = (code : Block) (U : Given) (p n : ℕ) (k : List MadeEvent) → LegalPlace code U p k → top_stamp 0 k ≤ n → StampedTo n k

-- one event more leaves a legal history of a place
abbrev pub PlaceGrows : Type 0
PlaceGrows = (code : Block) (U : Given) (p : ℕ) (k : List MadeEvent) (m : MadeEvent) → LegalPlace code U p k
    → MayMake code U p (journal_of k) m → StampedTo m.stamp k → IsPrefix (seen_by k) m.carried → LegalPlace code U p (k ++ m ∷ [])

-- each event of task t is by the caller c
abbrev pub EachSeated : ℕ → List ℕ → List MadeEvent → Type 0
EachSeated t c [] = Unit {0}
EachSeated t c (m ∷ k) = (m.task.0 ≡ t → m.by ≡ c) × EachSeated t c k

-- each event of a task is by the caller that the ledger's history names for it
abbrev pub SeatMakes : Type 0
SeatMakes = (code : Block) (U : Given) (p : ℕ) (h : List LedgerItem) (k : List MadeEvent) (t : ℕ) (a : Actor)
    → (legal : LegalLedger code U h) → LegalPlace code U p k → IsPrefix (seen_by k) h → slice_get legal.actors t ≡ Some a
    → EachSeated t a.seat k

-- The call of a store by a caller for a task: in the ledger's history g the task is at place p, its events here are those that
-- its entries there name and then some since, and these lead its term to a call d of the store.
pub record MayCallStore (code : Block) (U : Given) (p : ℕ) (before : List PlaceEvent) (g : List LedgerItem) (by : List ℕ)
    (t : TaskId) (mark : ℕ) (path : List ℕ) (d : Does) : Type 0 where
  pub legal : LegalLedger code U g
  pub actor : Actor
  pub stands : slice_get legal.actors t.0 ≡ Some actor
  pub here : actor.phase ≡ Present
  pub place : actor.birth.to.0 ≡ p
  pub seated : by ≡ actor.seat
  pub since : Cells
  pub earlier : filter_map (cell_of t.0) before ≡ actor.named ++ since
  pub stand : Stand
  pub walks : Walks actor.birth.to actor.stand since stand
  pub asks : does stand.vars actor.birth.to.0 stand.term ≡ d
  pub begins : begins stand.term ≡ Some path
  pub above : actor.stand.low ≤ mark

-- A call that may be made may be made with each longer legal history of the ledger in which the task's holder has appended
-- nothing more, and after other events in which the task has made nothing more.
abbrev pub CallKeeps : Type 0
CallKeeps = (code : Block) (U : Given) (p : ℕ) (before after : List PlaceEvent) (g more : List LedgerItem) (by : List ℕ)
    (t : TaskId) (mark : ℕ) (path : List ℕ) (d : Does) → (call : MayCallStore code U p before g by t mark path d)
    → LegalLedger code U (g ++ more) → NoneBy call.actor.holder more
    → filter_map (cell_of t.0) after ≡ filter_map (cell_of t.0) before → MayCallStore code U p after (g ++ more) by t mark path d

-- the store's answer to such a call makes an event that may come next
abbrev pub CallMakes : Type 0
CallMakes = (code : Block) (U : Given) (p : ℕ) (before : List PlaceEvent) (g : List LedgerItem) (by : List ℕ) (t : TaskId)
    (mark stamp : ℕ) (path : List ℕ) (d : Does) (cell : Cell) (answer : Answer) → mark ≤ stamp
    → (call : MayCallStore code U p before g by t mark path d) → Tells d call.actor.birth.to cell answer
    → MayMake code U p before (record { by = by; task = t; stamp = stamp; cell = cell; path = path; carried = g })
