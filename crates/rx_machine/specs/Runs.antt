-- What a turn is made of, and what a run leaves.
use Rattle.std.specs.Prelude.{◌≡◌, ℕ, suc, ◌+◌, ◌*◌, ◌<◌, ◌≤◌, ◌%◌, Bool, true, false, List, [], ◌∷◌, ◌++◌, length, Some, slice_get}
use Rattle.rx_base.specs.declared.ids.ScopeId.{ScopeId}
use Rattle.rx_rules.specs.declared.tasks.Task.{Task}
use Rattle.rx_rules.specs.declared.entries.Entry.{Entry}
use Rattle.rx_rules.specs.declared.entries.Entry.TheVariants.{Step, Root, Death, Join}
use Rattle.rx_rules.specs.Code.{Block, work}
use Rattle.rx_rules.specs.Tree.{Tree, task_of}
use Rattle.rx_rules.specs.Run.{Given, NoneDue, IsDue, EndsWithRoot}
use Rattle.rx_rules.specs.Reached.{Reached}
use Rattle.rx_rules.specs.Picked.{Game, Turn, Turns, enabled, tree_in, used_after}
use Rattle.rx_history.specs.Logs.{Log}
use Rattle.rx_history.specs.Events.{AllEvents, events_of}
use Rattle.rx_history.specs.Setups.{given, to_join}
use Rattle.rx_syntax.specs.Shape.{Shape}
use Rattle.rx_machine.specs.declared.machine.Machine.{Machine}
use Rattle.rx_machine.specs.declared.seat.Seat.{Seat}
use Rattle.rx_machine.specs.Slots.{row_of, seat_at}
use Rattle.rx_machine.specs.Picking.{AreEnabled}
use Rattle.rx_machine.specs.Holds.{Seated, MachineInvariant, Finished, CanTurn, LeadsTo}
use Rattle.rx_machine.specs.Refusals.{HasFailed}

-- a turn can be made, nothing planned is due, and it is told which tasks are enabled
pub record ReadyForTurn {L : Type 0} (shape : Shape) (code : Block) (U : Given) (m : Machine L) (G : Game)
    : Type 0 where
  pub can : CanTurn shape code U m G
  pub none_due : NoneDue (length G.entries) G.plan
  pub ready : AreEnabled (tree_in U G) m.ready.members

-- the entry is due: a death or a join
pub record Falling {L : Type 0} (shape : Shape) (code : Block) (U : Given) (m : Machine L) (e : Entry)
    (G : Game) : Type 0 where
  pub can : CanTurn shape code U m G
  pub due : IsDue (length G.entries) e G.plan

-- the pick k moves the task of slot i
pub record Taken {L : Type 0} (shape : Shape) (code : Block) (U : Given) (m : Machine L) (k i : ℕ)
    (G : Game) : Type 0 where
  pub can : CanTurn shape code U m G
  pub none_due : NoneDue (length G.entries) G.plan
  pub inside : i < length m.seats.items
  pub seat : Seat
  pub at : seat_at m.seats.items i ≡ Some seat
  pub picked : slice_get (enabled (tree_in U G)) (k % length (enabled (tree_in U G))) ≡ Some (row_of seat)

-- the pick k has moved the task of slot i, which hung under that scope, there were so many slots before, and the set still has the
-- tasks that were enabled then
pub record HasMoved {L : Type 0} (shape : Shape) (code : Block) (U : Given) (m : Machine L) (k i : ℕ)
    (under : ScopeId) (before : ℕ) (G H : Game) : Type 0 where
  pub can : CanTurn shape code U m H
  pub turn : Turn U k G true H
  pub reached : Reached (tree_in U G)
  pub mover : Task
  pub picked : slice_get (enabled (tree_in U G)) (k % length (enabled (tree_in U G))) ≡ Some mover
  pub number : mover.number.0 ≡ i
  pub found : task_of (tree_in U G) mover.number ≡ Some mover
  pub hung : mover.under ≡ under
  pub slots : before ≡ (tree_in U G).next_task
  pub ready : AreEnabled (tree_in U G) m.ready.members

-- a turn with the pick k leads to a game for which the machine stands, but for what tells which tasks are enabled
abbrev pub AfterTurn : {L : Type 0} → Shape → Block → Given → Machine L → ℕ → Game → Type 0
AfterTurn shape code U m k G = LeadsTo (Turn U k G true) (Seated shape code U m)

-- a turn, with the pick or as a death or a join, leads to a game for which the machine stands
abbrev pub WentOn : {L : Type 0} → Shape → Block → Given → Machine L → ℕ → Bool → Game → Type 0
WentOn shape code U m k used G = LeadsTo (Turn U k G used) (MachineInvariant shape code U m)

-- there is a game for which the machine stands
abbrev pub CanRun : {L : Type 0} → Shape → Machine L → Type 0
CanRun shape m = (code : Block) × (U : Given) × (G : Game) × MachineInvariant shape code U m G

-- from each game for which the machine stood, it went on with the first of the picks or without it, and these are left
abbrev pub HasGoneOn : {L : Type 0} → Shape → Machine L → Machine L → (ℕ → ℕ) → (ℕ → ℕ) → Type 0
HasGoneOn shape m m' picks left =
    (used : Bool)
    × ((code : Block) (U : Given) (G : Game) → MachineInvariant shape code U m G → WentOn shape code U m' (picks 0) used G)
    × ((j : ℕ) → left j ≡ picks (used_after used j))

-- from each game for which the machine stood, the root was released
abbrev pub HasEnded : {L : Type 0} → Shape → Machine L → Machine L → ℕ → Type 0
HasEnded shape m m' k =
    (code : Block) (U : Given) (G : Game) → MachineInvariant shape code U m G → LeadsTo (Turn U k G false) (Finished U m')

-- from each game for which the machine stood, a turn with the pick k was refused
abbrev pub WasRefused : {L : Type 0} → Shape → Machine L → Machine L → ℕ → Type 0
WasRefused shape m m' k = (code : Block) (U : Given) (G : Game) → MachineInvariant shape code U m G → HasFailed U k m' G

-- the number of picks that the entries used: one for each that is a task's
abbrev pub picks_in : List Entry → ℕ
picks_in [] = 0
picks_in (Step t act batch ∷ es) = suc (picks_in es)
picks_in (Root lost masked thrown ∷ es) = picks_in es
picks_in (Death d ∷ es) = picks_in es
picks_in (Join p ∷ es) = picks_in es

-- what is given out of a machine is that of the game: its history, the journals of its places, and a ledger that stands for its tree
pub record Gives {L : Type 0} (stands : L → ℕ → Tree → Type 0) (U : Given) (G : Game) (r : Log × AllEvents × L) : Type 0 where
  pub entries : r.0.entries ≡ G.entries
  pub setup : given r.0.setup ≡ U
  pub journals : events_of r.1 ≡ G.journals
  pub ledger : stands r.2 (to_join U (tree_in U G)) (tree_in U G)

-- What is left of a machine that has made all turns from a game on: the game that they lead to, which ends with the root's release, is
-- given out, and one pick was used for each entry of a task that they added. They and the turns before them are few.
pub record RanFrom {L : Type 0} (stands : L → ℕ → Tree → Type 0) (code : Block) (U : Given) (picks left : ℕ → ℕ)
    (G : Game) (r : Log × AllEvents × L) : Type 0 where
  pub turns : ℕ
  pub game : Game
  pub made : Turns U picks turns 0 G game
  pub ended : EndsWithRoot game.entries
  pub gives : Gives stands U game r
  pub added : List Entry
  pub adds : game.entries ≡ G.entries ++ added
  pub used : (j : ℕ) → left j ≡ picks (picks_in added + j)
  pub few : length G.entries + turns ≤ 4 * work code + 2 * U.places + 3 * length U.joins + 8
