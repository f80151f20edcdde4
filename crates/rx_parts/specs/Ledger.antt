-- Histories of the ledger's book: entries, each with its caller and with what its operation names.
use Rattle.std.specs.Prelude.{◌≡◌, ℕ, suc, ◌≤◌, cond, ◌==◌, List, [], ◌∷◌, ◌++◌, map, Some, slice_get, slice_set}
use Rattle.rx_base.specs.declared.ids.PlaceId.{PlaceId}
use Rattle.rx_base.specs.declared.ids.TaskId.{TaskId}
use Rattle.rx_base.specs.declared.values.Fault.{Fault}
use Rattle.rx_rules.specs.declared.entries.Act.{Act}
use Rattle.rx_rules.specs.declared.entries.Act.TheVariants.{At as Calls, Spawn, Arrive, End}
use Rattle.rx_rules.specs.declared.entries.Entry.{Entry}
use Rattle.rx_rules.specs.declared.entries.Entry.TheVariants.{Step}
use Rattle.rx_rules.specs.declared.events.Cell.{Cell}
use Rattle.rx_rules.specs.Code.{Block}
use Rattle.rx_rules.specs.Terms.{Term, Empty, Vars, no_vars, items, Answer, answered, vars_after, Local, Done, does, begins, granted, child}
use Rattle.rx_rules.specs.Plays.{Birth, Cells, Moves, Fits, Tells, begun, brought, vars_told}
use Rattle.rx_rules.specs.Run.{Given, Folds}
pub use Rattle.rx_runs.specs.Rooted.{RootIsLast}
use Rattle.rx_runs.specs.Segments.{Stand}

-- an entry, its caller, and what is named beside it
pub record LedgerItem : Type 0 where
  pub by : List ℕ
  pub entry : Entry
  -- the events that its task made since its entry before
  pub events : Cells
  -- the caller that holds the task that it starts
  pub holder : List ℕ
  -- where it makes a task live: the caller of the place's book that makes that task's events
  pub seat : List ℕ

-- the entries alone
abbrev pub entries_of : List LedgerItem → List Entry
entries_of h = map (λ i. i.entry) h

-- how far a task is: on its way, at its place, or over
pub data Phase : Type 0 where
  Away : Phase
  Present : Phase
  Over : Phase

-- what a history says of a task
pub record Actor : Type 0 where
  pub holder : List ℕ
  pub seat : List ℕ
  pub birth : Birth
  pub start : Term × Vars
  pub phase : Phase
  -- its entries, and the events that they name
  pub moves : Moves
  pub named : Cells
  -- where its term stands after them
  pub stand : Stand

-- a term at its start; no stamp and no entry number of what comes is below `low`
abbrev pub first_stand : ℕ → Term × Vars → Stand
first_stand low s = record { low = low; vars = s.1; term = s.0; batch = [] }

-- local steps and answered store calls, with exactly these events
pub data Walks (here : PlaceId) : Stand → Cells → Stand → Type 0 where
  stays : {a : Stand} → Walks here a [] a
  local : {a z : Stand} {cells : Cells} {after : Term} {left : Vars} → does a.vars here.0 a.term ≡ Local after left
      → Walks here (record { low = a.low; vars = left; term = after; batch = begun a.term a.batch }) cells z
      → Walks here a cells z
  stores : {a z : Stand} {cells : Cells} {stamp : ℕ} {cell : Cell} {x : List ℕ} (answer : Answer) → a.low ≤ stamp
      → Tells (does a.vars here.0 a.term) here cell answer → begins a.term ≡ Some x
      → Walks here (record {
        low = stamp;
        vars = vars_after answer a.vars;
        term = answered answer a.term;
        batch = begun a.term a.batch;
      }) cells z
      → Walks here a ((stamp, cell, x) ∷ cells) z

-- task 0, which the first caller holds; it is at place 0 from the start and knows so many places
abbrev pub main_actor : Block → ℕ → Actor
main_actor code places =
    record {
      holder = [];
      seat = [];
      birth = record { from = record { 0 = 0 }; to = record { 0 = 0 }; low = 0 };
      start = (items code [] Empty, no_vars places);
      phase = Present;
      moves = [];
      named = [];
      stand = first_stand 0 (items code [] Empty, no_vars places);
    }

-- a task that item n starts, where its starter's term stands at z
abbrev pub actor_born : ℕ → LedgerItem → PlaceId → PlaceId → Stand → Actor
actor_born n i from to z =
    record {
      holder = i.holder;
      seat = i.seat;
      birth = record { from = from; to = to; low = suc n };
      start = (child z.term, z.vars);
      phase = cond (from.0 == to.0) Present Away;
      moves = [];
      named = [];
      stand = first_stand (suc n) (child z.term, z.vars);
    }

-- the task that an act starts, if it starts one
abbrev pub actors_born : ℕ → LedgerItem → Act → Stand → List Actor
actors_born n i (Calls from to s r c x) z = actor_born n i from to z ∷ []
actors_born n i (Spawn c s from to x) z = actor_born n i from to z ∷ []
actors_born n i _ z = []

-- a task after its arrival
abbrev pub actor_arrived : ℕ → LedgerItem → PlaceId → Actor → Actor
actor_arrived n i p a =
    record a {
      seat = i.seat;
      phase = Present;
      moves = a.moves ++ (n, Arrive p, []) ∷ [];
      stand = record { low = suc n; vars = a.stand.vars; term = a.stand.term; batch = a.stand.batch };
    }

-- a task after a granted request, which it made where its term stands at z
abbrev pub actor_granted : ℕ → LedgerItem → Act → Stand → Actor → Actor
actor_granted n i act z a =
    record a {
      moves = a.moves ++ (n, act, z.batch) ∷ [];
      named = a.named ++ i.events;
      stand = record {
        low = suc n;
        vars = vars_told (does z.vars a.birth.to.0 z.term) act z.vars;
        term = granted (brought act) z.term;
        batch = [];
      };
    }

-- a task after its end
abbrev pub actor_ended : ℕ → LedgerItem → List Fault → Stand → Actor → Actor
actor_ended n i faults z a =
    record a {
      phase = Over;
      moves = a.moves ++ (n, End faults, z.batch) ∷ [];
      named = a.named ++ i.events;
      stand = z;
    }

-- the entry is the host's: it is of no task
abbrev pub IsHostEntry : Entry → Type 0
IsHostEntry (Step t act batch) = ⊥
IsHostEntry _ = Unit {0}

-- Item n, and what it makes of the tasks: an entry of the host nothing. An entry of a task is by its holder. Its term goes by
-- local steps and by exactly the events that the item names, none of which has a stamp above n, to what the entry says.
pub data ItemMakes (n : ℕ) : List Actor → LedgerItem → List Actor → Type 0 where
  hosts : {actors : List Actor} {i : LedgerItem} → IsHostEntry i.entry → ItemMakes n actors i actors
  arrives : {actors : List Actor} {i : LedgerItem} (t : TaskId) (p : PlaceId) (a : Actor) → i.entry ≡ Step t (Arrive p) []
      → slice_get actors t.0 ≡ Some a → i.by ≡ a.holder → a.phase ≡ Away → i.events ≡ []
      → ItemMakes n actors i (slice_set actors t.0 (actor_arrived n i p a))
  asks : {actors : List Actor} {i : LedgerItem} (t : TaskId) (act : Act) (a : Actor) (z : Stand) → i.entry ≡ Step t act z.batch
      → slice_get actors t.0 ≡ Some a → i.by ≡ a.holder → a.phase ≡ Present → Walks a.birth.to a.stand i.events z → z.low ≤ n
      → Fits a.birth.to z.term (does z.vars a.birth.to.0 z.term) act
      → ItemMakes n actors i (slice_set actors t.0 (actor_granted n i act z a) ++ actors_born n i act z)
  ends : {actors : List Actor} {i : LedgerItem} (t : TaskId) (faults : List Fault) (a : Actor) (z : Stand)
      → i.entry ≡ Step t (End faults) z.batch → slice_get actors t.0 ≡ Some a → i.by ≡ a.holder → a.phase ≡ Present
      → Walks a.birth.to a.stand i.events z → z.low ≤ n → does z.vars a.birth.to.0 z.term ≡ Done faults
      → ItemMakes n actors i (slice_set actors t.0 (actor_ended n i faults z a))

-- what the items from item n on make of the tasks, one after another
abbrev pub AllMake : ℕ → List Actor → List LedgerItem → List Actor → Type 0
AllMake n actors [] last = actors ≡ last
AllMake n actors (i ∷ h) last = (next : List Actor) × ItemMakes n actors i next × AllMake (suc n) next h last

-- a legal history of the ledger's book, and what it says of each task
pub record LegalLedger (code : Block) (U : Given) (h : List LedgerItem) : Type 0 where
  pub folds : Folds U (entries_of h)
  pub last : RootIsLast (entries_of h)
  pub actors : List Actor
  pub made : AllMake 0 (main_actor code U.places ∷ []) h actors
