-- What becomes of the players by one entry.
use Rattle.std.specs.Prelude.{◌≡◌, ◌≢◌, ℕ, suc, true, false, List, drop, Option, Some, slice_get, slice_set}
use Rattle.std.specs.Global.{Box}
use Rattle.rx_base.specs.declared.ids.PlaceId.{PlaceId}
use Rattle.rx_base.specs.declared.ids.TaskId.{TaskId}
use Rattle.rx_rules.specs.declared.entries.Act.{Act}
use Rattle.rx_rules.specs.declared.entries.Act.TheVariants.{Arrive, End}
use Rattle.rx_rules.specs.declared.tasks.Where.TheVariants.{At}
use Rattle.rx_rules.specs.declared.entries.Entry.{Entry}
use Rattle.rx_rules.specs.declared.entries.Entry.TheVariants.{Step}
use Rattle.rx_rules.specs.declared.events.PlaceEvent.{PlaceEvent}
use Rattle.rx_rules.specs.Code.{Block}
use Rattle.rx_rules.specs.Picked.{Player}
use Rattle.rx_rules.specs.Plays.{Cells, moves_from}
use Rattle.rx_rules.specs.Run.{Given}
use Rattle.rx_finish.specs.declared.ledger.Caller.{Caller}
use Rattle.rx_syntax.specs.Shape.{Shape, Stands as IsScript}
use Rattle.rx_verdict.specs.Seats as pass
use Rattle.rx_verify.specs.declared.along.Along.{Along}
use Rattle.rx_verify.specs.declared.players.Players.{Players}
use Rattle.rx_verify.specs.declared.seat.Stop.{Stop}
use Rattle.rx_verify.specs.declared.players.Slot.{Slot}
use Rattle.rx_verify.specs.declared.players.Slot.TheVariants.{Here}
use Rattle.rx_verify.specs.declared.seat.Seat.{Seat}
use Rattle.rx_verify.specs.Along.{KeepsAlong}
use Rattle.rx_verify.specs.Marked.{IsNextOf}
use Rattle.rx_verify.specs.Players.{AwaitsWhere, PlayersStand, StopsAt, none_rests, others_rest}
use Rattle.rx_verify.specs.Reaching.{right}

-- the walk of task t, which has come to the player y, has gone along with a batch
abbrev pub WalksAlong : List pass.Seat → ℕ → Player → Along → Along → Type 0
WalksAlong seats t y old new = (z : Player) (left : Cells) → slice_get seats t ≡ Some (pass.Stands z left) → KeepsAlong old new z y

-- task t is at its place, before some entry of a history
abbrev pub CanWalk : Shape → List (List PlaceEvent) → Players → ℕ → Type 0
CanWalk shape js ps t =
    (code : Block) × (U : Given) × (es : List Entry) × (i : ℕ) × (seat : Box Seat) × IsScript shape code
    × PlayersStand none_rests shape code U es js i ps × (slice_get ps.slots.items t ≡ Some (Here seat))

-- it has come to where it stops, and has gone along with a batch; `last` is the number of its next entry, or none
abbrev pub HasWalked : Shape → List (List PlaceEvent) → Players → Players → ℕ → Option ℕ → Along → Along → Stop → Type 0
HasWalked shape js old new t last was along stop =
    (code : Block) (U : Given) (es : List Entry) (i : ℕ) → IsScript shape code → (before : PlayersStand none_rests shape code U es js i old)
    → IsNextOf last (moves_from i (drop i es) t)
    → (after : PlayersStand none_rests shape code U es js i new) × (stops : StopsAt shape U es js i t new stop after.seats)
    × ((u : ℕ) → u ≢ t → slice_get after.seats u ≡ slice_get before.seats u) × WalksAlong before.seats t stops.player was along

-- before entry i, which is of this task: the task has come to where it stops, and has begun the entry's batch
pub record Stopped (shape : Shape) (code : Block) (U : Given) (es : List Entry) (js : List (List PlaceEvent)) (i : ℕ) (ps : Players)
    (task : TaskId) (act : Act) (batch : List (List ℕ)) (stop : Stop) : Type 0 where
  pub awaits : AwaitsWhere (others_rest task.0) shape code U es js i ps (Step task act batch)
  pub stops : StopsAt shape U es js i task.0 ps stop awaits.players.seats
  pub whole : batch ≡ stops.player.batch

-- the task at its place makes no such act where it has stopped
abbrev pub NoneMakes : List Slot → TaskId → Stop → Act → Type 0
NoneMakes slots task stop act =
    (seat : Box Seat) → slice_get slots task.0 ≡ Some (Here seat) → right stop seat.value.home act ≡ false

-- or it does, and this is who it is to the ledger
abbrev pub OneMakes : List Slot → TaskId → Stop → Act → Caller → Type 0
OneMakes slots task stop act who =
    (seat : Box Seat) → slice_get slots task.0 ≡ Some (Here seat) → (right stop seat.value.home act ≡ true) × (who ≡ seat.value.who)

-- a task that travelled is at this place, after the entry with this number
abbrev pub HasLanded : Players → Players → ℕ → TaskId → PlaceId → Box Seat → Type 0
HasLanded old new number task place seat =
    (landing : Box Seat) × (new ≡ record old { slots = new.slots }) × (new.slots.items ≡ slice_set old.slots.items task.0 (Here landing))
    × (landing.value ≡ record seat.value { low = suc number; who = record seat.value.who { place = At place } })

-- an act after which its task goes on, or waits
abbrev pub GoesAfter : Act → Type 0
GoesAfter (Arrive p) = ⊥
GoesAfter (End thrown) = ⊥
GoesAfter act = Unit {0}
