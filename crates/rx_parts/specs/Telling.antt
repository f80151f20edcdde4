-- What a call tells its caller: how its task, and a task that it started, stand afterwards.
use Rattle.std.specs.Prelude.{◌≡◌, ℕ, ◌≤◌, List, [], ◌∷◌, ◌++◌, length, Some, slice_get}
use Rattle.std.specs.List.{filter_map}
use Rattle.rx_base.specs.declared.ids.PlaceId.{PlaceId}
use Rattle.rx_base.specs.declared.ids.TaskId.{TaskId}
use Rattle.rx_rules.specs.declared.entries.Act.{Act}
use Rattle.rx_rules.specs.declared.entries.Act.TheVariants.{Arrive}
use Rattle.rx_rules.specs.declared.entries.Entry.TheVariants.{Step}
use Rattle.rx_rules.specs.Code.{Block}
use Rattle.rx_rules.specs.Terms.{Answer, answered, vars_after, Does}
use Rattle.rx_rules.specs.Plays.{Fits, Tells, begun, cell_of, started_by}
use Rattle.rx_rules.specs.Run.{Given}
use Rattle.rx_parts.specs.Ledger.{LedgerItem, Actor, Away, Walks, LegalLedger, actor_arrived, actor_granted, actors_born}
use Rattle.rx_parts.specs.Growing.{NoneBy, MayRequest}
use Rattle.rx_parts.specs.Places.{MadeEvent, journal_of}
use Rattle.rx_parts.specs.Closing.{StampedTo}
use Rattle.rx_parts.specs.Calling.{AllHostItems, MayCallStore}

-- A call: after g, which its caller had seen, come entries of others, then what was due, and then item i.
pub record IsCall (code : Block) (U : Given) (g between due : List LedgerItem) (i : LedgerItem) : Type 0 where
  pub short : LegalLedger code U g
  pub alone : NoneBy i.by between
  pub hosts : AllHostItems due
  pub long : LegalLedger code U (g ++ (between ++ (due ++ i ∷ [])))

-- the number of item i
abbrev pub number_of : List LedgerItem → List LedgerItem → List LedgerItem → ℕ
number_of g between due = length (g ++ (between ++ due))

-- after a granted request the task stands behind it
abbrev pub RequestTells : Type 0
RequestTells = (code : Block) (U : Given) (g between due : List LedgerItem) (i : LedgerItem) (n : ℕ) (t : TaskId) (act : Act)
    (batch : List (List ℕ)) (d : Does) → (call : IsCall code U g between due i) → i.entry ≡ Step t act batch
    → n ≤ length (g ++ between) → (ask : MayRequest call.short.actors n i.by t i.events batch d)
    → Fits ask.actor.birth.to ask.stand.term d act
    → slice_get call.long.actors t.0 ≡ Some (actor_granted (number_of g between due) i act ask.stand ask.actor)

-- and a task that it started stands at its beginning
abbrev pub BirthTells : Type 0
BirthTells = (code : Block) (U : Given) (g between due : List LedgerItem) (i : LedgerItem) (n : ℕ) (t : TaskId) (act : Act)
    (batch : List (List ℕ)) (d : Does) (c : TaskId) (born : Actor) → (call : IsCall code U g between due i)
    → i.entry ≡ Step t act batch → n ≤ length (g ++ between)
    → (ask : MayRequest call.short.actors n i.by t i.events batch d) → Fits ask.actor.birth.to ask.stand.term d act
    → started_by act ≡ Some c → actors_born (number_of g between due) i act ask.stand ≡ born ∷ []
    → slice_get call.long.actors c.0 ≡ Some born

-- after its arrival a task is at its place
abbrev pub ArrivalTells : Type 0
ArrivalTells = (code : Block) (U : Given) (g between due : List LedgerItem) (i : LedgerItem) (t : TaskId) (p : PlaceId)
    (a : Actor) → (call : IsCall code U g between due i) → i.entry ≡ Step t (Arrive p) []
    → slice_get call.short.actors t.0 ≡ Some a → i.by ≡ a.holder → a.phase ≡ Away → i.events ≡ []
    → slice_get call.long.actors t.0 ≡ Some (actor_arrived (number_of g between due) i p a)

-- After the store's answer to a call that may be made, the task's events at its place are those of before and the new one, and its
-- term has gone on by the answer.
abbrev pub EventTells : Type 0
EventTells = (code : Block) (U : Given) (p : ℕ) (k : List MadeEvent) (g : List LedgerItem) (by : List ℕ) (t : TaskId)
    (mark : ℕ) (path : List ℕ) (d : Does) (m : MadeEvent) (answer : Answer)
    → (call : MayCallStore code U p (journal_of k) g by t mark path d) → m.task ≡ t → m.path ≡ path → mark ≤ m.stamp
    → StampedTo m.stamp k → Tells d call.actor.birth.to m.cell answer
    → (filter_map (cell_of t.0) (journal_of (k ++ m ∷ []))
    ≡ call.actor.named ++ (call.since ++ (m.stamp, m.cell, m.path) ∷ []))
    × Walks call.actor.birth.to call.actor.stand (call.since ++ (m.stamp, m.cell, m.path) ∷ []) (record {
      low = m.stamp;
      vars = vars_after answer call.stand.vars;
      term = answered answer call.stand.term;
      batch = begun call.stand.term call.stand.batch;
    })
