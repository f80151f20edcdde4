-- The run that a schedule gives: which of the enabled tasks moves at each turn is told by a number, its pick.
use Rattle.std.specs.Prelude.{◌≡◌, ℕ, suc, ◌%◌, Bool, true, false, cond, ◌&&◌, ◌||◌, not, List, [], ◌∷◌, ◌++◌, filter, reverse, length}
use Rattle.std.specs.Prelude.{replicate, slice_get, slice_set, Some, None, is_none}
use Rattle.rx_base.specs.declared.ids.PlaceId.{PlaceId}
use Rattle.rx_base.specs.declared.place_set.PlaceSet.{PlaceSet}
use Rattle.rx_base.specs.declared.ids.TaskId.{TaskId}
use Rattle.rx_base.specs.declared.values.Fault.{Fault}
use Rattle.rx_rules.specs.declared.tasks.Where.TheVariants.{At}
use Rattle.rx_rules.specs.declared.tasks.Task.{Task}
use Rattle.rx_rules.specs.declared.entries.Act.{Act}
use Rattle.rx_rules.specs.declared.entries.Act.TheVariants.{Arrive, End}
use Rattle.rx_rules.specs.declared.events.Cell.{Cell}
use Rattle.rx_rules.specs.declared.entries.Entry.{Entry}
use Rattle.rx_rules.specs.declared.entries.Entry.TheVariants.{Step, Root, Death}
use Rattle.rx_rules.specs.declared.events.PlaceEvent.{PlaceEvent}
use Rattle.rx_rules.specs.declared.events.PlaceEvent.TheVariants.{Done as Did, Close}
use Rattle.rx_rules.specs.Code.{Block}
use Rattle.rx_rules.specs.Terms.{Term, Empty, Vars, no_vars, Answer, vars_after, answered, Local, Done, does, begins, granted, child, items}
use Rattle.rx_rules.specs.Tree.{Tree, inner, quiet}
use Rattle.rx_rules.specs.Entries.{Allowed}
use Rattle.rx_rules.specs.Fold.{tree_of}
use Rattle.rx_rules.specs.Plays.{Tells, Fits, begun, brought, vars_told, started_by, journal_at}
use Rattle.rx_rules.specs.Store.{State, opening_state, MayCell, after_cell}
use Rattle.rx_rules.specs.Run.{Given, Event, in_all, plan_of, NoneDue, IsDue, rest_of, NoRoot, EndsWithRoot}

-- what a task has still to run, and the statements begun since its last entry
pub record Player : Type 0 where
  pub term : Term
  pub vars : Vars
  pub batch : List (List ℕ)

-- a run so far: each task by its number, the history, journals and stores by place, and what is planned and left
pub record Game : Type 0 where
  pub players : List Player
  pub entries : List Entry
  pub journals : List (List PlaceEvent)
  pub stores : List State
  pub plan : List Event

-- before the first turn
abbrev pub start_game : Block → Given → Game
start_game code U =
    record {
      players = record { term = items code [] Empty; vars = no_vars U.places; batch = [] } ∷ [];
      entries = [];
      journals = replicate (in_all U) [];
      stores = replicate (in_all U) opening_state;
      plan = plan_of U;
    }

-- the tree to which the history folds
abbrev pub tree_in : Given → Game → Tree
tree_in U G = tree_of U.places G.entries

-- an unstruck task that does not wait at a scope that it may not yet release
abbrev pub is_enabled : Tree → Task → Bool
is_enabled T x = is_none x.struck && (not x.waits || quiet T (inner T x))

-- The tasks of the tree stand newest first; picks count from the oldest.
abbrev pub enabled : Tree → List Task
enabled T = reverse (filter (is_enabled T) T.tasks)

-- nothing is due, and the pick k takes this enabled task
abbrev pub PickTakes : Given → ℕ → Game → Task → Type 0
PickTakes U k G x =
    NoneDue (length G.entries) G.plan
    × (slice_get (enabled (tree_in U G)) (k % length (enabled (tree_in U G))) ≡ Some x)

-- local steps and store calls of a task at a place, in a history of n entries
pub data RunsWithoutEntry (heap n : ℕ) (t : TaskId) (here : PlaceId)
    : Player → State → List PlaceEvent → Player → State → List PlaceEvent → Type 0 where
  stays : {p : Player} {S : State} {j : List PlaceEvent} → RunsWithoutEntry heap n t here p S j p S j
  local : {p q : Player} {S Z : State} {j k : List PlaceEvent} {after : Term} {left : Vars} →
      does p.vars here.0 p.term ≡ Local after left →
      RunsWithoutEntry heap n t here (record { term = after; vars = left; batch = begun p.term p.batch }) S j q Z k →
      RunsWithoutEntry heap n t here p S j q Z k
  stores : {p q : Player} {S Z : State} {j k : List PlaceEvent} (cell : Cell) (x : List ℕ) (a : Answer) →
      Tells (does p.vars here.0 p.term) here cell a → begins p.term ≡ Some x → MayCell heap S cell →
      RunsWithoutEntry heap n t here
      (record { term = answered a p.term; vars = vars_after a p.vars; batch = begun p.term p.batch })
      (after_cell S cell) (j ++ Did t n cell x ∷ []) q Z k →
      RunsWithoutEntry heap n t here p S j q Z k

-- the player after its act
abbrev pub acted : PlaceId → Player → Act → Player
acted here p act =
    record {
      term = granted (brought act) p.term;
      vars = vars_told (does p.vars here.0 p.term) act p.vars;
      batch = [];
    }

-- the player of a task that an act starts
abbrev pub child_of : Player → Act → List Player
child_of p act =
    elim (started_by act) [ Some c ↦ record { term = child p.term; vars = p.vars; batch = [] } ∷ [] | None ↦ [] ]

-- a game with one entry more
abbrev pub with_entry : Game → Entry → Game
with_entry G e = record G { entries = G.entries ++ e ∷ [] }

-- the journals after an entry: a death closes that of its place
abbrev pub closed_by : Game → Entry → List (List PlaceEvent)
closed_by G (Death d) = slice_set G.journals d.0 (journal_at G.journals d.0 ++ Close (length G.entries) ∷ [])
closed_by G _ = G.journals

-- one turn, with the pick k where one is used
pub data Turn (U : Given) (k : ℕ) : Game → Bool → Game → Type 0 where
  due : {G : Game} (e : Entry) → IsDue (length G.entries) e G.plan →
      Turn U k G false (record (with_entry G e) { journals = closed_by G e; plan = rest_of G.plan })
  arrives : {G : Game} (x : Task) (p : PlaceId) →
      PickTakes U k G x → Allowed (tree_in U G) (Step x.number (Arrive p) []) →
      Turn U k G true (with_entry G (Step x.number (Arrive p) []))
  moves : {G : Game} (x : Task) (here : PlaceId) (p q : Player) (S Z : State) (j : List PlaceEvent) (act : Act) →
      PickTakes U k G x → x.place ≡ At here → slice_get G.players x.number.0 ≡ Some p → slice_get G.stores here.0 ≡ Some S →
      RunsWithoutEntry U.heap (length G.entries) x.number here p S (journal_at G.journals here.0) q Z j →
      Fits here q.term (does q.vars here.0 q.term) act → Allowed (tree_in U G) (Step x.number act q.batch) →
      Turn U k G true (record (with_entry G (Step x.number act q.batch)) {
        players = slice_set G.players x.number.0 (acted here q act) ++ child_of q act;
        journals = slice_set G.journals here.0 j;
        stores = slice_set G.stores here.0 Z;
      })
  ends : {G : Game} (x : Task) (here : PlaceId) (p q : Player) (S Z : State) (j : List PlaceEvent)
      (faults : List Fault) →
      PickTakes U k G x → x.place ≡ At here → slice_get G.players x.number.0 ≡ Some p → slice_get G.stores here.0 ≡ Some S →
      RunsWithoutEntry U.heap (length G.entries) x.number here p S (journal_at G.journals here.0) q Z j →
      does q.vars here.0 q.term ≡ Done faults → Allowed (tree_in U G) (Step x.number (End faults) q.batch) →
      Turn U k G true (record (with_entry G (Step x.number (End faults) q.batch)) {
        journals = slice_set G.journals here.0 j;
        stores = slice_set G.stores here.0 Z;
      })
  root : {G : Game} (lost : PlaceSet) (masked : ℕ) (thrown : List Fault) →
      NoneDue (length G.entries) G.plan → enabled (tree_in U G) ≡ [] → Allowed (tree_in U G) (Root lost masked thrown) →
      Turn U k G false (with_entry G (Root lost masked thrown))

-- a game that turns have made, whatever the picks
pub data MadeByTurns (code : Block) (U : Given) : Game → Type 0 where
  opens : MadeByTurns code U (start_game code U)
  turns : {G G' : Game} {k : ℕ} {used : Bool} → MadeByTurns code U G → NoRoot G.entries → Turn U k G used G' → MadeByTurns code U G'

-- the number of picks used after a turn
abbrev pub used_after : Bool → ℕ → ℕ
used_after used j = cond used (suc j) j

-- so many turns from one game to another, none after the root's release; j picks were used before
pub data Turns (U : Given) (picks : ℕ → ℕ) : ℕ → ℕ → Game → Game → Type 0 where
  none : {j : ℕ} {G : Game} → Turns U picks 0 j G G
  more : {n j : ℕ} {G G' G'' : Game} {used : Bool} →
      NoRoot G.entries → Turn U (picks j) G used G' → Turns U picks n (used_after used j) G' G'' →
      Turns U picks (suc n) j G G''

-- the picked run of a script under a setup: the turns from the opening to the root's release
pub record IsPicked (code : Block) (U : Given) (picks : ℕ → ℕ) (es : List Entry) (js : List (List PlaceEvent))
    : Type 0 where
  pub turns : ℕ
  pub game : Game
  pub made : Turns U picks turns 0 (start_game code U) game
  pub ended : EndsWithRoot game.entries
  pub entries : es ≡ game.entries
  pub journals : js ≡ game.journals
