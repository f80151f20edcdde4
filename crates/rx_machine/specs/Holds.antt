-- A machine stands for a game that turns have made.
use Rattle.std.specs.Prelude.{◌≡◌, ◌≢◌, ℕ, ◌<◌, ◌≤◌, ◌%◌, false, List, [], slice_set, length, Some, None, slice_get}
use Rattle.rx_base.specs.declared.ids.PlaceId.{PlaceId}
use Rattle.rx_rules.specs.declared.tasks.Where.TheVariants.{At, Travel}
use Rattle.rx_rules.specs.declared.events.PlaceEvent.{PlaceEvent}
use Rattle.rx_rules.specs.Code.{Block, work}
use Rattle.rx_rules.specs.Store.{State}
use Rattle.rx_rules.specs.Plays.{journal_at}
use Rattle.rx_rules.specs.Reached.{Reached}
use Rattle.rx_rules.specs.Run.{Given, in_all, Proper, NoRoot, NoneDue, EndsWithRoot}
use Rattle.rx_rules.specs.Picked.{Game, Player, RunsWithoutEntry, MadeByTurns, tree_in, enabled}
use Rattle.rx_runs.specs.SomeWords.{MakesSome}
use Rattle.rx_history.specs.Setups.{given}
use Rattle.rx_store.specs.Kepts.{StoresAre}
use Rattle.rx_syntax.specs.Shape.{Shape}
use Rattle.rx_finish.specs.Callers.{HasNumbers}
use Rattle.rx_machine.specs.declared.machine.Machine.{Machine}
use Rattle.rx_machine.specs.declared.seat.Seat.{Seat}
use Rattle.rx_machine.specs.declared.seat.Mover.{Mover}
use Rattle.rx_machine.specs.Slots.{row_of, seat_of, seat_at, SlotIs, IsSeat}
use Rattle.rx_machine.specs.Picking.{AreEnabled}

-- a script and a setup for which a machine runs on: a checked script and a proper setup
pub record RunsOn (code : Block) (U : Given) : Type 0 where
  pub proper : Proper U
  pub few : work code ≤ 100000
  pub makes : MakesSome code

-- what a machine and a game share beside the seats
pub record Shares {L : Type 0} (code : Block) (U : Given) (m : Machine L) (G : Game) : Type 0 where
  pub on : RunsOn code U
  pub comes : MadeByTurns code U G
  pub setup : given m.chronicle.setup ≡ U
  pub entries : m.chronicle.entries ≡ G.entries
  pub slots : length m.seats.items ≡ (tree_in U G).next_task
  pub failed : m.failed ≡ false

-- the machine stands for the game, but for what tells which tasks are enabled
pub record Seated {L : Type 0} (shape : Shape) (code : Block) (U : Given) (m : Machine L) (G : Game)
    : Type 0 where
  pub shares : Shares code U m G
  pub stores : StoresAre U.heap 0 m.stores.items G.journals
  pub seats : (n : ℕ) → SlotIs shape G.entries (tree_in U G) G.players n (seat_at m.seats.items n)

-- the machine stands for the game, in which the root stands
pub record MachineInvariant {L : Type 0} (shape : Shape) (code : Block) (U : Given) (m : Machine L) (G : Game)
    : Type 0 where
  pub seated : Seated shape code U m G
  pub unreleased : NoRoot G.entries
  pub ready : AreEnabled (tree_in U G) m.ready.members

-- it stands for the game, but for that and for the seat of task i, which has been taken out to make a turn
pub record HoldsBut {L : Type 0} (shape : Shape) (code : Block) (U : Given) (m : Machine L) (i : ℕ)
    (G : Game) : Type 0 where
  pub shares : Shares code U m G
  pub empty : seat_at m.seats.items i ≡ None
  pub others : (n : ℕ) → n ≢ i → SlotIs shape G.entries (tree_in U G) G.players n (seat_at m.seats.items n)

-- task i is the one that the pick k moves
pub record IsPick (U : Given) (k i : ℕ) (seat : Seat) (G : Game) : Type 0 where
  pub stands : NoRoot G.entries
  pub none_due : NoneDue (length G.entries) G.plan
  pub picked : slice_get (enabled (tree_in U G)) (k % length (enabled (tree_in U G))) ≡ Some (row_of seat)
  pub number : seat.who.task.0 ≡ i

-- the task that moves, at a place, began its turn as the player p and has come to the player q
pub record HasGone (shape : Shape) (U : Given) (i : ℕ) (here : PlaceId) (p q : Player) (S Z : State)
    (j : List PlaceEvent) (mover : Mover) (G : Game) : Type 0 where
  pub player : slice_get G.players i ≡ Some p
  pub store : slice_get G.stores here.0 ≡ Some S
  pub is_at : mover.who.place ≡ At here
  pub goes : RunsWithoutEntry U.heap (length G.entries) mover.who.task here p S (journal_at G.journals here.0) q Z j
  pub seat_is : IsSeat shape G.entries (tree_in U G) i q (seat_of mover)
  pub batch : mover.batch ≡ q.batch

-- a turn that leads to a game with P
abbrev pub LeadsTo : (Game → Type 0) → (Game → Type 0) → Type 0
LeadsTo Turned P = (G : Game) × Turned G × P G

-- task i, which the pick k moves and which was taken out of its slot, has come to the player q
pub record Acting {L : Type 0} (shape : Shape) (code : Block) (U : Given) (m : Machine L) (k i : ℕ)
    (here : PlaceId) (q : Player) (mover : Mover) (G : Game) : Type 0 where
  pub but : HoldsBut shape code U m i G
  pub pick : IsPick U k i (seat_of mover) G
  pub began : Player
  pub store : State
  pub left : State
  pub events : List PlaceEvent
  pub gone : HasGone shape U i here began q store left events mover G
  pub numbers : HasNumbers (tree_in U G)
  pub reached : Reached (tree_in U G)
  pub inside : i < length m.seats.items
  pub place : here.0 < (tree_in U G).places
  pub stored : here.0 < in_all U
  pub stores : StoresAre U.heap 0 m.stores.items (slice_set G.journals here.0 events)
  pub players : length G.players ≡ (tree_in U G).next_task

-- task i, which the pick k moves and which was taken out of its slot, travels to a place
pub record Landing {L : Type 0} (shape : Shape) (code : Block) (U : Given) (m : Machine L) (k i : ℕ)
    (to : PlaceId) (seat : Seat) (G : Game) : Type 0 where
  pub but : HoldsBut shape code U m i G
  pub pick : IsPick U k i seat G
  pub player : Player
  pub is_player : slice_get G.players i ≡ Some player
  pub none_begun : player.batch ≡ []
  pub seat_is : IsSeat shape G.entries (tree_in U G) i player seat
  pub from : PlaceId
  pub travels : seat.who.place ≡ Travel from to
  pub numbers : HasNumbers (tree_in U G)
  pub inside : i < length m.seats.items
  pub stores : StoresAre U.heap 0 m.stores.items G.journals

-- what is left of a run after the root's release
pub record Finished {L : Type 0} (U : Given) (m : Machine L) (G : Game) : Type 0 where
  pub entries : m.chronicle.entries ≡ G.entries
  pub setup : given m.chronicle.setup ≡ U
  pub stores : StoresAre U.heap 0 m.stores.items G.journals
  pub ended : EndsWithRoot G.entries
  -- no task is enabled, and none is told as enabled
  pub none_enabled : enabled (tree_in U G) ≡ []
  pub none_ready : m.ready.members ≡ []

-- the machine stands for a game in which the root stands, and what holds of such a game
pub record CanTurn {L : Type 0} (shape : Shape) (code : Block) (U : Given) (m : Machine L) (G : Game)
    : Type 0 where
  pub holds : Seated shape code U m G
  pub unreleased : NoRoot G.entries
  pub numbers : HasNumbers (tree_in U G)
  pub reached : Reached (tree_in U G)
