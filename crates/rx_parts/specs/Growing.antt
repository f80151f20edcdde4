-- How a legal history of the ledger grows.
use Rattle.std.specs.Prelude.{◌≡◌, ◌≢◌, false, ℕ, ◌≤◌, List, [], ◌∷◌, ◌++◌, Some, slice_get}
use Rattle.rx_base.specs.declared.ids.PlaceId.{PlaceId}
use Rattle.rx_base.specs.declared.ids.TaskId.{TaskId}
use Rattle.rx_base.specs.declared.values.Fault.{Fault}
use Rattle.rx_rules.specs.declared.entries.Act.{Act}
use Rattle.rx_rules.specs.declared.entries.Act.TheVariants.{Arrive, End}
use Rattle.rx_rules.specs.declared.entries.Entry.TheVariants.{Step}
use Rattle.rx_rules.specs.Code.{Block}
use Rattle.rx_rules.specs.Terms.{Does, Done, does}
use Rattle.rx_rules.specs.Plays.{Cells, Fits}
use Rattle.rx_rules.specs.Run.{Given}
use Rattle.rx_runs.specs.Segments.{Stand}
use Rattle.rx_parts.specs.Ledger.{LedgerItem, Actor, Away, Present, Walks, ItemMakes, LegalLedger}
use Rattle.rx_parts.specs.Reading.{is_of}

-- the history without entries is legal
abbrev pub LedgerOpens : Type 0
LedgerOpens = (code : Block) (U : Given) → 1 ≤ U.places → U.places ≤ 16 → LegalLedger code U []

-- a legal history begins with legal ones
abbrev pub PrefixLegal : Type 0
PrefixLegal = (code : Block) (U : Given) (g h : List LedgerItem) → LegalLedger code U (g ++ h) → LegalLedger code U g

-- a history says one thing of its tasks
abbrev pub OneAccount : Type 0
OneAccount = (code : Block) (U : Given) (h : List LedgerItem) → (a b : LegalLedger code U h) → a.actors ≡ b.actors

-- each entry of task t is by the caller c
abbrev pub EachBy : ℕ → List ℕ → List LedgerItem → Type 0
EachBy t c [] = Unit {0}
EachBy t c (i ∷ h) =
    ((u : TaskId) (act : Act) (batch : List (List ℕ)) → i.entry ≡ Step u act batch → u.0 ≡ t → i.by ≡ c) × EachBy t c h

-- each entry of a task is by its holder
abbrev pub HolderActs : Type 0
HolderActs = (code : Block) (U : Given) (h : List LedgerItem) (t : ℕ) (a : Actor) → (legal : LegalLedger code U h)
    → slice_get legal.actors t ≡ Some a → EachBy t a.holder h

-- no item is by the caller c
abbrev pub NoneBy : List ℕ → List LedgerItem → Type 0
NoneBy c [] = Unit {0}
NoneBy c (i ∷ h) = (i.by ≢ c) × NoneBy c h

-- what a history says of a task stays as long as the task's holder appends nothing
abbrev pub TaskStays : Type 0
TaskStays = (code : Block) (U : Given) (g more : List LedgerItem) (t : ℕ) (a : Actor) → (short : LegalLedger code U g)
    → (long : LegalLedger code U (g ++ more)) → slice_get short.actors t ≡ Some a → NoneBy a.holder more
    → slice_get long.actors t ≡ Some a

-- no entry is of task t
abbrev pub NoneOf : ℕ → List LedgerItem → Type 0
NoneOf t [] = Unit {0}
NoneOf t (i ∷ h) = (is_of t i.entry ≡ false) × NoneOf t h

-- where a task's holder has appended nothing more, no new entry is of the task
abbrev pub OthersAct : Type 0
OthersAct = (code : Block) (U : Given) (g more : List LedgerItem) (t : ℕ) (a : Actor) → (short : LegalLedger code U g)
    → LegalLedger code U (g ++ more) → slice_get short.actors t ≡ Some a → NoneBy a.holder more → NoneOf t more

-- The request of a caller for a task that is at its place: the caller holds the task, whose term comes by these events to where
-- it does d, and has then begun these statements. No stamp is above n.
pub record MayRequest (actors : List Actor) (n : ℕ) (by : List ℕ) (t : TaskId) (events : Cells) (batch : List (List ℕ)) (d : Does)
    : Type 0 where
  pub actor : Actor
  pub stands : slice_get actors t.0 ≡ Some actor
  pub held : by ≡ actor.holder
  pub here : actor.phase ≡ Present
  pub stand : Stand
  pub walks : Walks actor.birth.to actor.stand events stand
  pub in_time : stand.low ≤ n
  pub begun : batch ≡ stand.batch
  pub asks : does stand.vars actor.birth.to.0 stand.term ≡ d

-- what grants such a request makes an item
abbrev pub RequestMakes : Type 0
RequestMakes = (n : ℕ) (actors : List Actor) (t : TaskId) (act : Act) (batch : List (List ℕ)) (d : Does) (i : LedgerItem)
    → i.entry ≡ Step t act batch → (ask : MayRequest actors n i.by t i.events batch d)
    → Fits ask.actor.birth.to ask.stand.term d act → (next : List Actor) × ItemMakes n actors i next

-- so does an end
abbrev pub EndMakes : Type 0
EndMakes = (n : ℕ) (actors : List Actor) (t : TaskId) (batch : List (List ℕ)) (faults : List Fault) (i : LedgerItem)
    → i.entry ≡ Step t (End faults) batch → MayRequest actors n i.by t i.events batch (Done faults)
    → (next : List Actor) × ItemMakes n actors i next

-- so does an arrival
abbrev pub ArrivalMakes : Type 0
ArrivalMakes = (n : ℕ) (actors : List Actor) (t : TaskId) (p : PlaceId) (a : Actor) (i : LedgerItem)
    → i.entry ≡ Step t (Arrive p) [] → slice_get actors t.0 ≡ Some a → i.by ≡ a.holder → a.phase ≡ Away → i.events ≡ []
    → (next : List Actor) × ItemMakes n actors i next
