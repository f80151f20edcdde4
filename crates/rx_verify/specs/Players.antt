-- What players keep of the tasks of a history.
use Rattle.std.specs.Prelude.{◌≡◌, ◌≢◌, ℕ, suc, ◌≤◌, List, [], length, take, Some, slice_get}
use Rattle.std.specs.Global.{Box}
use Rattle.rx_rules.specs.declared.entries.Entry.{Entry}
use Rattle.rx_rules.specs.declared.events.PlaceEvent.{PlaceEvent}
use Rattle.rx_rules.specs.Code.{Block}
use Rattle.rx_rules.specs.Fold.{tree_of}
use Rattle.rx_rules.specs.Picked.{Player}
use Rattle.rx_rules.specs.Plays.{Cells}
use Rattle.rx_rules.specs.Run.{Given}
use Rattle.rx_runs.specs.Games.{fresh}
use Rattle.rx_chronicle.specs.Told.{parents_told}
use Rattle.rx_syntax.specs.Shape.{Shape, Stands as IsScript}
use Rattle.rx_verdict.specs.Makes.{cells_of}
use Rattle.rx_verdict.specs.Marks.{home_of, low_of}
use Rattle.rx_verdict.specs.Parts.{IsQuiet}
use Rattle.rx_verdict.specs.Seats as pass
use Rattle.rx_verdict.specs.Seats.{Seated, MayFollow}
use Rattle.rx_verify.specs.declared.seat.Seat.{Seat}
use Rattle.rx_verify.specs.declared.players.Slot.{Slot}
use Rattle.rx_verify.specs.declared.players.Slot.TheVariants.{Away, Here, Over}
use Rattle.rx_verify.specs.declared.players.Players.{Players}
use Rattle.rx_verify.specs.declared.seat.Stop.{Stop}
use Rattle.rx_verify.specs.Callers.{CallerIs}
use Rattle.rx_verify.specs.Marked.{MarksAre}
use Rattle.rx_verify.specs.Stood.{Stood, Stops}
use Rattle.rx_verify.specs.Table.{TableIs}

-- the seat is that of task t after these entries, which stands for the player with these events left
pub record IsSeat (shape : Shape) (places : ℕ) (es : List Entry) (js : List (List PlaceEvent)) (t : ℕ) (seat : Seat) (z : Player)
    (left : Cells) : Type 0 where
  pub number : seat.who.task.0 ≡ t
  pub home : seat.home ≡ home_of es t
  pub low : seat.low ≡ low_of es t
  -- it knows of no more places than there are
  pub known : z.vars.places ≤ (tree_of places es).places
  pub stood : Stood shape js seat z left

-- the slot of task t holds what the pass keeps of it: it travels, or has come to a player, or has ended
abbrev pub SlotIs : Shape → ℕ → List Entry → List (List PlaceEvent) → ℕ → Slot → pass.Seat → Type 0
SlotIs shape places es js t (Away seat) (pass.Away r) = IsSeat shape places es js t seat.value (fresh r) (cells_of es js t)
SlotIs shape places es js t (Here seat) (pass.Stands z left) = IsSeat shape places es js t seat.value z left
SlotIs shape places es js t Over pass.Over = Unit {0}
SlotIs shape places es js t slot seat = ⊥

-- task t has begun no statement since its last entry
abbrev pub Rests : List pass.Seat → ℕ → Type 0
Rests seats t = (z : Player) (left : Cells) → slice_get seats t ≡ Some (pass.Stands z left) → z.batch ≡ []

-- which tasks are known to rest: all, those other than task t, or none
abbrev pub all_rest : ℕ → Type 0
all_rest u = Unit {0}

abbrev pub others_rest : ℕ → ℕ → Type 0
others_rest t u = u ≢ t

abbrev pub none_rests : ℕ → Type 0
none_rests u = ⊥

-- after i entries the players stand for the tasks, of which these rest, and their marks for the events used so far
pub record PlayersStand (resting : ℕ → Type 0) (shape : Shape) (code : Block) (U : Given) (es : List Entry) (js : List (List PlaceEvent))
    (i : ℕ) (ps : Players) : Type 0 where
  pub seats : List pass.Seat
  pub seated : Seated code U (take i es) js seats
  pub size : length ps.slots.items ≡ length seats
  pub each : (t : ℕ) (slot : Slot) (seat : pass.Seat) → slice_get ps.slots.items t ≡ Some slot → slice_get seats t ≡ Some seat
      → SlotIs shape U.places (take i es) js t slot seat
  pub callers : (t : ℕ) (slot : Slot) (seat : pass.Seat) → slice_get ps.slots.items t ≡ Some slot → slice_get seats t ≡ Some seat
      → CallerIs U (take i es) t slot seat
  pub parents : ps.parents.items ≡ parents_told (take i es)
  pub table : TableIs js (suc (length es)) ps.table
  pub marks : MarksAre code U es js ps.slots.items ps.marks
  pub rest : (t : ℕ) → resting t → Rests seats t

-- between two entries all rest
abbrev pub PlayersAre : Shape → Block → Given → List Entry → List (List PlaceEvent) → ℕ → Players → Type 0
PlayersAre shape code U es js i ps = PlayersStand all_rest shape code U es js i ps

-- task t has come to the player z, where it stops, with these events left
pub record StopsAt (shape : Shape) (U : Given) (es : List Entry) (js : List (List PlaceEvent)) (i t : ℕ) (ps : Players) (stop : Stop)
    (seats : List pass.Seat) : Type 0 where
  pub seat : Box Seat
  pub slot : slice_get ps.slots.items t ≡ Some (Here seat)
  pub player : Player
  pub left : Cells
  pub stands : slice_get seats t ≡ Some (pass.Stands player left)
  pub stops : Stops stop seat.value player left

-- before entry i: the players stand for the tasks, of which these rest, and the entry is this
pub record AwaitsWhere (resting : ℕ → Type 0) (shape : Shape) (code : Block) (U : Given) (es : List Entry) (js : List (List PlaceEvent))
    (i : ℕ) (ps : Players) (e : Entry) : Type 0 where
  pub script : IsScript shape code
  pub players : PlayersStand resting shape code U es js i ps
  pub here : slice_get es i ≡ Some e

-- where all rest, as between two entries
abbrev pub Awaits : Shape → Block → Given → List Entry → List (List PlaceEvent) → ℕ → Players → Entry → Type 0
Awaits shape code U es js i ps e = AwaitsWhere all_rest shape code U es js i ps e

-- the players stand after an entry of no task that may follow, as they stood before it
abbrev pub PlayersStay : Type 0
PlayersStay =
    (shape : Shape) (code : Block) (U : Given) (es : List Entry) (js : List (List PlaceEvent)) (i : ℕ) (ps : Players) (e : Entry)
    → IsQuiet e → MayFollow U es i e → PlayersAre shape code U es js i ps → PlayersAre shape code U es js (suc i) ps
