-- What a refused turn leaves: a beginning of what the turn tells.
use Rattle.std.specs.Prelude.{◌≡◌, ◌⊎◌, ℕ, ◌%◌, Bool, List, [], ◌∷◌, map, length, Some, slice_get, slice_set, true}
use mathlib.Core.List.{IsPrefix}
use Rattle.rx_base.specs.declared.ids.PlaceId.{PlaceId}
use Rattle.rx_rules.specs.declared.tasks.Task.{Task}
use Rattle.rx_rules.specs.declared.tasks.Where.TheVariants.{At}
use Rattle.rx_rules.specs.declared.entries.Entry.{Entry}
use Rattle.rx_rules.specs.declared.events.PlaceEvent.{PlaceEvent}
use Rattle.rx_rules.specs.Tree.{task_of}
use Rattle.rx_rules.specs.Store.{State}
use Rattle.rx_rules.specs.Plays.{journal_at}
use Rattle.rx_rules.specs.Run.{Given, NoneDue}
use Rattle.rx_rules.specs.Picked.{Game, Player, Turn, RunsWithoutEntry, enabled, tree_in}
use Rattle.rx_store.specs.Kept.{StoreView}
use Rattle.rx_machine.specs.declared.machine.Machine.{Machine}
use Rattle.rx_store.specs.Kepts.{StoresAre}

-- each list begins the one at its place
abbrev pub BeginEach : List (List PlaceEvent) → List (List PlaceEvent) → Type 0
BeginEach [] [] = Unit {0}
BeginEach (j ∷ js) (k ∷ ks) = IsPrefix j k × BeginEach js ks
BeginEach [] (k ∷ ks) = ⊥
BeginEach (j ∷ js) [] = ⊥

-- the entries and journals begin with those of the game, and begin those that a turn with the pick k leads to
pub record HasBegun (U : Given) (k : ℕ) (G : Game) (es : List Entry) (js : List (List PlaceEvent)) : Type 0 where
  pub used : Bool
  pub after : Game
  pub turn : Turn U k G used after
  pub entries_before : IsPrefix G.entries es
  pub entries_after : IsPrefix es after.entries
  pub journals_before : BeginEach G.journals js
  pub journals_after : BeginEach js after.journals

-- the stores have the events of a part of the walk of the task that the pick k moves
pub record HasTold (U : Given) (k : ℕ) (G : Game) (items : List StoreView) : Type 0 where
  pub task : Task
  pub here : PlaceId
  pub began : Player
  pub now : Player
  pub store : State
  pub left : State
  pub events : List PlaceEvent
  pub none_due : NoneDue (length G.entries) G.plan
  pub picked : slice_get (enabled (tree_in U G)) (k % length (enabled (tree_in U G))) ≡ Some task
  pub stands : task_of (tree_in U G) task.number ≡ Some task
  pub is_at : task.place ≡ At here
  pub player : slice_get G.players task.number.0 ≡ Some began
  pub found : slice_get G.stores here.0 ≡ Some store
  pub goes : RunsWithoutEntry U.heap (length G.entries) task.number here began store (journal_at G.journals here.0) now left events
  pub stores : StoresAre U.heap 0 items (slice_set G.journals here.0 events)

-- a turn with the pick k was refused from the game: what is told of it begins what the turn leads to, and as many tasks are told as
-- enabled as were before it
pub record HasFailed {L : Type 0} (U : Given) (k : ℕ) (m : Machine L) (G : Game) : Type 0 where
  pub begun : HasBegun U k G m.chronicle.entries (map (λ s. s.events) m.stores.items)
  pub ready : length m.ready.members ≡ length (enabled (tree_in U G))

-- the entries are those of a game to which a turn with the pick k leads, and so are the events of the stores
pub record HasMade {L : Type 0} (U : Given) (k : ℕ) (G : Game) (m : Machine L) : Type 0 where
  pub after : Game
  pub turn : Turn U k G true after
  pub entries : m.chronicle.entries ≡ after.entries
  pub stores : StoresAre U.heap 0 m.stores.items after.journals

-- A turn was refused before its first event, on the way to its entry, or after it.
abbrev pub HasStopped : {L : Type 0} → Given → ℕ → Game → Machine L → Type 0
HasStopped U k G m =
    ((m.chronicle.entries ≡ G.entries) × (StoresAre U.heap 0 m.stores.items G.journals ⊎ HasTold U k G m.stores.items)) ⊎ HasMade U k G m

-- a refused request has told nothing, or the entry of its turn
abbrev pub NothingMore : {L : Type 0} → Given → ℕ → Game → Machine L → Machine L → Type 0
NothingMore U k G m m' = ((m'.chronicle.entries ≡ m.chronicle.entries) × (m'.stores ≡ m.stores)) ⊎ HasMade U k G m'
