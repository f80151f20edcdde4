-- What players tell of an entry of a task: first who asks the ledger for its act, and then whether the task makes it.
use Rattle.std.specs.Prelude.{◌≡◌, ℕ, suc, Bool, true, false, ◌&&◌, ◌==◌, List, [], take, Option, Some, None, slice_get}
use Rattle.std.specs.Global.{Box}
use Rattle.std.specs.Ordering.{int_eq}
use Rattle.rx_base.specs.declared.ids.PlaceId.{PlaceId}
use Rattle.rx_base.specs.declared.ids.TaskId.{TaskId}
use Rattle.rx_rules.specs.declared.entries.Act.{Act}
use Rattle.rx_rules.specs.declared.entries.Act.TheVariants.{Open, At as Calls, Spawn, Arrive, Wait, Release, End, Print, Census}
use Rattle.rx_rules.specs.declared.entries.Entry.{Entry}
use Rattle.rx_rules.specs.declared.entries.Entry.TheVariants.{Step}
use Rattle.rx_rules.specs.declared.events.PlaceEvent.{PlaceEvent}
use Rattle.rx_rules.specs.Code.{Block}
use Rattle.rx_rules.specs.Fold.{tree_of}
use Rattle.rx_rules.specs.Run.{Given}
use Rattle.rx_finish.specs.declared.ledger.Caller.{Caller}
use Rattle.rx_ledger.specs.TermAsks.{MayAskAct}
use Rattle.rx_syntax.specs.Shape.{Shape}
use Rattle.rx_history.specs.declared.step.Want.{Want}
use Rattle.rx_history.specs.declared.step.Want.TheVariants.{Open as WantOpen, At as WantAt, Spawn as WantSpawn, Wait as WantWait}
use Rattle.rx_history.specs.declared.step.Want.TheVariants.{Release as WantRelease, Print as WantPrint, Census as WantCensus}
use Rattle.rx_verdict.specs.Seats as pass
use Rattle.rx_verdict.specs.Seats.{MayFollow}
use Rattle.rx_verdict.specs.Verdicts.{Part}
use Rattle.rx_verify.specs.declared.players.Slot.TheVariants.{Away}
use Rattle.rx_verify.specs.declared.players.Players.{Players}
use Rattle.rx_verify.specs.declared.seat.Seat.{Seat}
use Rattle.rx_verify.specs.declared.seat.Stop.{Stop}
use Rattle.rx_verify.specs.declared.seat.Stop.TheVariants.{Asks, Ends, Halts}
use Rattle.rx_verify.specs.Players.{Awaits, AwaitsWhere, PlayersAre, StopsAt, others_rest}

-- the act is of the kind that is wanted, from here and for its place, or with its value
abbrev pub wanted : Want → PlaceId → Act → Bool
wanted WantOpen here (Open s r x) = true
wanted (WantAt place) here (Calls from to s r c x) = (to.0 == place.0) && (from.0 == here.0)
wanted (WantSpawn place) here (Spawn c s from to x) = (to.0 == place.0) && (from.0 == here.0)
wanted WantWait here (Wait s thrown) = true
wanted WantRelease here (Release s lost masked thrown) = true
wanted (WantPrint value) here (Print z x) = int_eq z value
wanted WantCensus here (Census n x) = true
wanted _ here act = false

-- a task that stops so makes such an act next, whatever its path and its faults
abbrev pub right : Stop → PlaceId → Act → Bool
right (Asks want) here act = wanted want here act
right Ends here (End thrown) = true
right Ends here act = false
right Halts here act = false

-- the task makes such an act with this batch: it travels and arrives, or it has stopped where it makes it
abbrev pub TaskMakesAct : Shape → Given → List Entry → List (List PlaceEvent) → ℕ → Players → List pass.Seat → TaskId → List (List ℕ) → Act
    → Type 0
TaskMakesAct shape U es js i ps seats task batch (Arrive p) =
    (seat : Box Seat) × (slice_get ps.slots.items task.0 ≡ Some (Away seat)) × (batch ≡ [])
TaskMakesAct shape U es js i ps seats task batch act =
    (stop : Stop) × (stops : StopsAt shape U es js i task.0 ps stop seats) × (batch ≡ stops.player.batch)
    × (right stop stops.seat.value.home act ≡ true)

-- before entry i: its task has come to where it makes such an act
pub record Ready (shape : Shape) (code : Block) (U : Given) (es : List Entry) (js : List (List PlaceEvent)) (i : ℕ) (ps : Players)
    (task : TaskId) (act : Act) (batch : List (List ℕ)) : Type 0 where
  pub awaits : AwaitsWhere (others_rest task.0) shape code U es js i ps (Step task act batch)
  pub makes : TaskMakesAct shape U es js i ps awaits.players.seats task batch act

-- entry i is this act of the task, and the players stand before it
abbrev pub Awaited : Shape → List (List PlaceEvent) → ℕ → Players → TaskId → Act → List (List ℕ) → Type 0
Awaited shape js i ps task act batch =
    (code : Block) × (U : Given) × (es : List Entry) × Awaits shape code U es js i ps (Step task act batch)

-- Where nobody asks, the entries are no part of a run with the entry. Or this caller asks, which is the task, and may ask for the act.
abbrev pub Reached : Shape → List (List PlaceEvent) → ℕ → Players → Players → TaskId → Act → List (List ℕ) → Option Caller → Type 0
Reached shape js i old new task act batch None =
    (code : Block) (U : Given) (es : List Entry) → Awaits shape code U es js i old (Step task act batch) → Part code U es js (suc i) → ⊥
Reached shape js i old new task act batch (Some who) =
    (code : Block) (U : Given) (es : List Entry) → Awaits shape code U es js i old (Step task act batch)
    → (who.task ≡ task) × MayAskAct (tree_of U.places (take i es)) who act × Ready shape code U es js i new task act batch

-- the entry may follow, and its task has come to where it makes such an act
abbrev pub Granted : Shape → ℕ → Players → TaskId → Act → Type 0
Granted shape i ps task act =
    (code : Block) × (U : Given) × (es : List Entry) × (js : List (List PlaceEvent)) × (batch : List (List ℕ))
    × Ready shape code U es js i ps task act batch × MayFollow U es i (Step task act batch)

-- a yes: the players stand for the tasks after the entry. A no: with the entry they are no part of a run.
abbrev pub IsMade : Shape → ℕ → Players → Players → TaskId → Act → Bool → Type 0
IsMade shape i old new task act true =
    (code : Block) (U : Given) (es : List Entry) (js : List (List PlaceEvent)) (batch : List (List ℕ))
    → Ready shape code U es js i old task act batch → MayFollow U es i (Step task act batch) → PlayersAre shape code U es js (suc i) new
IsMade shape i old new task act false =
    (code : Block) (U : Given) (es : List Entry) (js : List (List PlaceEvent)) (batch : List (List ℕ))
    → Ready shape code U es js i old task act batch → MayFollow U es i (Step task act batch) → Part code U es js (suc i) → ⊥
