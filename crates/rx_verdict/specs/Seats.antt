-- The pass over the entries as a whole: a list of seats, one for each task born, and what each entry makes of it.
use Rattle.std.specs.Prelude.{◌≡◌, ℕ, suc, ◌≤◌, cond, List, [], ◌∷◌, ◌++◌, take, Some, None, slice_get, slice_set}
use Rattle.rx_base.specs.declared.ids.PlaceId.{PlaceId}
use Rattle.rx_base.specs.declared.ids.TaskId.{TaskId}
use Rattle.rx_base.specs.declared.values.Fault.{Fault}
use Rattle.rx_rules.specs.declared.entries.Act.{Act}
use Rattle.rx_rules.specs.declared.entries.Act.TheVariants.{Arrive, End}
use Rattle.rx_rules.specs.declared.entries.Entry.{Entry}
use Rattle.rx_rules.specs.declared.entries.Entry.TheVariants.{Step}
use Rattle.rx_rules.specs.declared.events.PlaceEvent.{PlaceEvent}
use Rattle.rx_rules.specs.Code.{Block}
use Rattle.rx_rules.specs.Entries.{Allowed}
use Rattle.rx_rules.specs.Fold.{AllAllowed, opening, tree_of}
use Rattle.rx_rules.specs.Picked.{Player, acted}
use Rattle.rx_rules.specs.Plays.{Cells, Starts, Fits, birth_of, travels, started_by}
use Rattle.rx_rules.specs.Run.{Given, PlanKept, plan_of, NoRoot}
use Rattle.rx_rules.specs.Terms.{Term, Empty, Vars, no_vars, items, Done, child}
use Rattle.rx_runs.specs.AnyAnswers.{AsksStore}
use Rattle.rx_runs.specs.Games.{fresh, Pairs}
use Rattle.rx_runs.specs.Segments.{plan_left, InTime}
use Rattle.rx_verdict.specs.Makes.{Made, cells_of}
use Rattle.rx_verdict.specs.Marks.{home_of, StandsAt, WholePass}
use Rattle.rx_verdict.specs.Passes.{IsAway, IsAt, HasEnded}
use Rattle.rx_runs.specs.Rooted.{RootIsLast}
use Rattle.rx_verdict.specs.Verdicts.{Part}
use Rattle.rx_verdict.specs.Walks.{Walks, next_does, AsksLedger, Halts}

-- what the pass keeps for a task
pub data Seat : Type 0 where
  -- it travels still, and starts so
  Away : (start : Term × Vars) → Seat
  -- it has come to this player, and these events are left
  Stands : (player : Player) (left : Cells) → Seat
  -- it has ended
  Over : Seat

-- task t, which starts as s, is where its seat says
abbrev pub SeatIs : Starts → List Entry → List (List PlaceEvent) → ℕ → Term × Vars → Seat → Type 0
SeatIs starts es js t s (Away r) = IsAway es t × (r ≡ s)
SeatIs starts es js t s (Stands z left) = IsAt starts es js t s z left
SeatIs starts es js t s Over = HasEnded es t

-- these entries are a part of a run, and the seats are those of their tasks
pub record Seated (code : Block) (U : Given) (es : List Entry) (js : List (List PlaceEvent)) (seats : List Seat) : Type 0 where
  pub some : 1 ≤ U.places
  pub few : U.places ≤ 16
  pub allowed : AllAllowed 0 (opening U.places) es
  pub rooted : RootIsLast es
  pub plan : PlanKept 0 (plan_of U) es
  pub starts : Starts
  pub made : Made code U.places es js starts
  pub each : Pairs (SeatIs starts es js) 0 starts seats

-- entry i may follow the entries before it: the tree allows it, none of them releases the root, and it is in time
pub record MayFollow (U : Given) (es : List Entry) (i : ℕ) (e : Entry) : Type 0 where
  pub here : slice_get es i ≡ Some e
  pub allowed : Allowed (tree_of U.places (take i es)) e
  pub no_root : NoRoot (take i es)
  pub in_time : InTime i (plan_left (plan_of U) (take i es)) e

-- how task 0 starts
abbrev pub main_start : Block → ℕ → Term × Vars
main_start code places = (items code [] Empty, no_vars places)

-- the seats before the first entry
abbrev pub opening_seats : Block → Given → List (List PlaceEvent) → List Seat
opening_seats code U js = Stands (fresh (main_start code U.places)) (cells_of [] js 0) ∷ []

-- What the seats tell: at the opening they are these; so many entries are a part of a run; a task stands where its seat says; and
-- where all entries are told, they are allowed and made.
abbrev pub SeatsTell : Type 0
SeatsTell =
    (code : Block) (U : Given) (es : List Entry) (js : List (List PlaceEvent))
    → (1 ≤ U.places → U.places ≤ 16 → Seated code U [] js (opening_seats code U js))
    × ((i : ℕ) (seats : List Seat) → Seated code U (take i es) js seats → Part code U es js i)
    × ((i : ℕ) (seats : List Seat) (t : ℕ) (z : Player) (left : Cells) → Seated code U (take i es) js seats
    → slice_get seats t ≡ Some (Stands z left) → StandsAt code U.places es js i t z left)
    × ((seats : List Seat) → Seated code U es js seats → WholePass code U es js)
    × ((seats : List Seat) (t : ℕ) (r : Term × Vars) → Seated code U es js seats → slice_get seats t ≡ Some (Away r) → IsAway es t)

-- where one entry more is a part of a run, it may follow
abbrev pub PartFollows : Type 0
PartFollows =
    (code : Block) (U : Given) (es : List Entry) (js : List (List PlaceEvent)) (i : ℕ) (e : Entry) → slice_get es i ≡ Some e
    → Part code U es js (suc i) → MayFollow U es i e

-- Between two entries a task walks on. Such a walk makes no entry, and so speaks of no starts.
abbrev pub SeatsWalk : Type 0
SeatsWalk =
    (code : Block) (U : Given) (es : List Entry) (js : List (List PlaceEvent)) (seats : List Seat) (t : ℕ) (z y : Player)
    (left rest : Cells) → Seated code U es js seats → slice_get seats t ≡ Some (Stands z left)
    → Walks [] (home_of es t) z left [] y rest → Seated code U es js (slice_set seats t (Stands y rest))

-- the seat of a newborn task, which starts so: it travels, or stands at its start
abbrev pub newborn_seat : List Entry → List (List PlaceEvent) → ℕ → Term × Vars → Seat
newborn_seat es js c r = cond (travels (birth_of es c)) (Away r) (Stands (fresh r) (cells_of es js c))

-- the seats of the tasks that an act of the player z starts
abbrev pub newborn_seats : List Entry → List (List PlaceEvent) → Player → Act → List Seat
newborn_seats es js z act =
    elim (started_by act) [ Some c ↦ newborn_seat es js c.0 (child z.term, z.vars) ∷ [] | None ↦ [] ]

-- the entry's batch is the player's, and its act is what the player asks
abbrev pub IsRequest : List Entry → TaskId → Act → List (List ℕ) → Player → Type 0
IsRequest es t act batch z = (batch ≡ z.batch) × Fits (birth_of es t.0).to z.term (next_does (birth_of es t.0).to z) act

-- A player that waits for the ledger makes the entry exactly where it is its request; then it goes on, and there is one seat more
-- where the act starts a task.
abbrev pub SeatAsks : Type 0
SeatAsks =
    (code : Block) (U : Given) (es : List Entry) (js : List (List PlaceEvent)) (i : ℕ) (seats : List Seat) (t : TaskId) (act : Act)
    (batch : List (List ℕ)) (z : Player) (left : Cells) → Seated code U (take i es) js seats → MayFollow U es i (Step t act batch)
    → slice_get seats t.0 ≡ Some (Stands z left) → AsksLedger (next_does (home_of (take i es) t.0) z)
    → (IsRequest (take i es) t act batch z → Seated code U (take (suc i) es) js
    (slice_set seats t.0 (Stands (acted (home_of (take i es) t.0) z act) left) ++ newborn_seats (take (suc i) es) js z act))
    × (Part code U es js (suc i) → IsRequest (take i es) t act batch z)

-- a player whose term is done makes the entry exactly where it is that end, with its batch; then the seat is over
abbrev pub SeatEnds : Type 0
SeatEnds =
    (code : Block) (U : Given) (es : List Entry) (js : List (List PlaceEvent)) (i : ℕ) (seats : List Seat) (t : TaskId) (act : Act)
    (batch : List (List ℕ)) (z : Player) (left : Cells) (faults : List Fault) → Seated code U (take i es) js seats
    → MayFollow U es i (Step t act batch) → slice_get seats t.0 ≡ Some (Stands z left)
    → next_does (home_of (take i es) t.0) z ≡ Done faults
    → ((batch ≡ z.batch) × (act ≡ End faults) → Seated code U (take (suc i) es) js (slice_set seats t.0 Over))
    × (Part code U es js (suc i) → (batch ≡ z.batch) × (act ≡ End faults))

-- a task that travels makes the entry exactly where it is its arrival without a batch; then it stands at its start
abbrev pub SeatArrives : Type 0
SeatArrives =
    (code : Block) (U : Given) (es : List Entry) (js : List (List PlaceEvent)) (i : ℕ) (seats : List Seat) (t : TaskId) (act : Act)
    (batch : List (List ℕ)) (r : Term × Vars) → Seated code U (take i es) js seats → MayFollow U es i (Step t act batch)
    → slice_get seats t.0 ≡ Some (Away r)
    → ((p : PlaceId) → act ≡ Arrive p → batch ≡ [] → Seated code U (take (suc i) es) js
    (slice_set seats t.0 (Stands (fresh r) (cells_of (take i es) js t.0))))
    × (Part code U es js (suc i) → (p : PlaceId) × (act ≡ Arrive p) × (batch ≡ []))

-- a task whose store call has no event that answers it makes no entry, nor does one that has ended
abbrev pub SeatRefuses : Type 0
SeatRefuses =
    (code : Block) (U : Given) (es : List Entry) (js : List (List PlaceEvent)) (i : ℕ) (seats : List Seat) (t : TaskId) (act : Act)
    (batch : List (List ℕ)) → Seated code U (take i es) js seats → MayFollow U es i (Step t act batch)
    → ((z : Player) (left : Cells) → slice_get seats t.0 ≡ Some (Stands z left) → AsksStore (next_does (home_of (take i es) t.0) z)
    → Halts (home_of (take i es) t.0) z left → Part code U es js (suc i) → ⊥)
    × (slice_get seats t.0 ≡ Some Over → Part code U es js (suc i) → ⊥)
