-- What a request to the ledger asks of an act, and how its task goes on.
use Rattle.std.specs.Prelude.{◌≡◌, ℕ, suc, ◌<◌, ◌≤◌, Bool, true, false, cond, ◌==◌, List, [], Option, Some, None}
use Rattle.std.specs.Global.{Box}
use Rattle.rx_base.specs.declared.ids.PlaceId.{PlaceId}
use Rattle.rx_base.specs.declared.ids.TaskId.{TaskId}
use Rattle.rx_base.specs.declared.ids.ScopeId.{ScopeId}
use Rattle.rx_rules.specs.declared.tasks.Where.TheVariants.{At, Travel}
use Rattle.rx_base.specs.declared.values.Fault.{Fault}
use Rattle.rx_rules.specs.declared.entries.Act.{Act}
use Rattle.rx_rules.specs.declared.entries.Act.TheVariants.{Open, At as Calls, Spawn, Arrive, Wait, Release, End, Print, Census}
use Rattle.rx_rules.specs.declared.events.PlaceEvent.{PlaceEvent}
use Rattle.rx_rules.specs.Picked.{Player, acted}
use Rattle.rx_rules.specs.Plays.{Cells, Fits, brought, journal_at, vars_told}
use Rattle.rx_rules.specs.Terms.{Term, Does, does, begins, child, granted}
use Rattle.rx_runs.specs.Steps.{steps}
use Rattle.rx_ledger.specs.Answering.{fresh_caller}
use Rattle.rx_ledger.specs.TermAsks.{who_after}
use Rattle.rx_syntax.specs.Shape.{Shape}
use Rattle.rx_control.specs.declared.control.Control.{Control}
use Rattle.rx_history.specs.declared.step.Want.{Want}
use Rattle.rx_history.specs.declared.step.Next.TheVariants.{Book}
use Rattle.rx_history.specs.Next.{next_of, carried}
use Rattle.rx_control.specs.Stands.{StandsFor}
use Rattle.rx_verdict.specs.Walks.{next_does}
use Rattle.rx_verify.specs.declared.players.Slot.{Slot}
use Rattle.rx_verify.specs.declared.players.Slot.TheVariants.{Away, Here}
use Rattle.rx_verify.specs.declared.seat.Seat.{Seat}
use Rattle.rx_verify.specs.declared.table.EventTable.{EventTable}
use Rattle.rx_verify.specs.Events.{IsFirst}
use Rattle.rx_verify.specs.Reaching.{wanted}
use Rattle.rx_verify.specs.Stood.{Stood}
use Rattle.rx_verify.specs.Table.{TableIs}

-- the rest of it is right: its path is that of the statement that begins, its faults are those that the term carries
abbrev pub FitsRest : Term → Does → Act → Type 0
FitsRest t d (Open s r x) = begins t ≡ Some x
FitsRest t d (Calls from to s r c x) = begins t ≡ Some x
FitsRest t d (Spawn c s from to x) = begins t ≡ Some x
FitsRest t d (Arrive p) = ⊥
FitsRest t d (Wait s thrown) = carried d ≡ Some thrown
FitsRest t d (Release s lost masked thrown) = Unit {0}
FitsRest t d (End thrown) = ⊥
FitsRest t d (Print z x) = begins t ≡ Some x
FitsRest t d (Census n x) = begins t ≡ Some x

-- the act is of the kind that is asked
abbrev pub ActIsAsked : PlaceId → Does → Act → Type 0
ActIsAsked here d act = (want : Want) × (next_of d ≡ Book want) × (wanted want here act ≡ true)

-- a census tells from 1 to 16 places, and no fewer than the task knows
abbrev pub CountsMore : ℕ → Act → Type 0
CountsMore known act = (n : ℕ) (x : List ℕ) → act ≡ Census n x → (1 ≤ n) × (n ≤ 16) × (known ≤ n)

-- after a granted request, which raised these faults, a control stands for what is left, and this takes no more steps
pub record IsGranted (shape : Shape) (c : Control) (t : Term) (faults : List Fault) : Type 0 where
  pub stands : StandsFor shape c (granted faults t)
  pub fewer : steps (granted faults t) ≤ steps t

-- the path is that of the statement that begins, and the control has gone on, or it is not
abbrev pub AfterPath : Shape → Control → Control → Term → List ℕ → Bool → Type 0
AfterPath shape old new t path true = (begins t ≡ Some path) × IsGranted shape new t [] × (new.vars ≡ old.vars)
AfterPath shape old new t path false = begins t ≡ Some path → ⊥

-- the faults are those that the term carries, and the control has gone on, or they are not
abbrev pub AfterWait : Shape → Control → Control → Term → List Fault → List Fault → Bool → Type 0
AfterWait shape old new t faults thrown true = (faults ≡ thrown) × IsGranted shape new t [] × (new.vars ≡ old.vars)
AfterWait shape old new t faults thrown false = faults ≡ thrown → ⊥

-- the rest of the act is right, and the control has gone on after it, or the rest is not right
abbrev pub AfterAct : Shape → Control → Control → PlaceId → Term → Act → Bool → Type 0
AfterAct shape old new here t act true =
    FitsRest t (does old.vars here.0 t) act × IsGranted shape new t (brought act)
    × (new.vars ≡ vars_told (does old.vars here.0 t) act old.vars)
AfterAct shape old new here t act false = FitsRest t (does old.vars here.0 t) act → ⊥

-- a seat after its task's act in the entry with this number: the task has gone on to the player y
pub record GoneOn (shape : Shape) (js : List (List PlaceEvent)) (parents : List ScopeId) (old new : Seat) (number : ℕ) (act : Act)
    (y : Player) (left : Cells) : Type 0 where
  pub who : new.who ≡ who_after parents act old.who
  pub home : new.home ≡ old.home
  pub low : new.low ≡ suc number
  pub position : new.position ≡ old.position
  pub stood : Stood shape js new y left

-- the act is what the player asks, and it has gone on after it, or it is not
abbrev pub AfterRequest : Shape → List (List PlaceEvent) → List ScopeId → Seat → Seat → ℕ → Player → Cells → Act → Bool → Type 0
AfterRequest shape js parents old new number z left act true =
    Fits old.home z.term (next_does old.home z) act × GoneOn shape js parents old new number act (acted old.home z act) left
AfterRequest shape js parents old new number z left act false = Fits old.home z.term (next_does old.home z) act → ⊥

-- the seat of a task that the player z starts under a scope by its entry with this number, at one place for another
pub record IsChild (shape : Shape) (table : EventTable) (number : ℕ) (z : Player) (c : TaskId) (scope : ScopeId) (from to : PlaceId)
    (seat : Seat) : Type 0 where
  pub who : seat.who ≡ fresh_caller c scope (cond (from.0 == to.0) (At to) (Travel from to))
  pub home : seat.home ≡ to
  pub low : seat.low ≡ suc number
  pub term : StandsFor shape seat.control (child z.term)
  pub fewer : steps (child z.term) ≤ steps z.term
  pub vars : seat.control.vars ≡ z.vars
  pub first : (js : List (List PlaceEvent)) (tasks : ℕ) → TableIs js tasks table → c.0 < tasks
      → IsFirst c.0 (journal_at js to.0) 0 seat.position

-- its slot: it is at its place, or travels to it
abbrev pub slot_for : PlaceId → PlaceId → Box Seat → Slot
slot_for from to seat = cond (from.0 == to.0) (Here seat) (Away seat)

-- the slot of the task that an act of the player starts, or none
abbrev pub IsNewborn : Shape → EventTable → ℕ → Player → Act → Option Slot → Type 0
IsNewborn shape table number z (Calls from to s r c x) o =
    (seat : Box Seat) × (o ≡ Some (slot_for from to seat)) × IsChild shape table number z c s from to seat.value
IsNewborn shape table number z (Spawn c s from to x) o =
    (seat : Box Seat) × (o ≡ Some (slot_for from to seat)) × IsChild shape table number z c s from to seat.value
IsNewborn shape table number z act o = o ≡ None
