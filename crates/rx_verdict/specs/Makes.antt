-- What a task's term makes of a history, where its events need not all be used and no stamp is looked at; and what it takes for
-- one of its events to be made.
use Rattle.std.specs.Prelude.{◌≡◌, ℕ, suc, ◌+◌, ◌≤◌, Bool, true, false, List, [], ◌∷◌, length, Some, slice_get}
use Rattle.std.specs.List.{filter_map}
use Rattle.rx_base.specs.declared.ids.PlaceId.{PlaceId}
use Rattle.rx_base.specs.declared.values.Fault.{Fault}
use Rattle.rx_rules.specs.declared.entries.Act.{Act}
use Rattle.rx_rules.specs.declared.entries.Act.TheVariants.{Arrive, End}
use Rattle.rx_rules.specs.declared.events.Cell.{Cell}
use Rattle.rx_rules.specs.declared.entries.Entry.{Entry}
use Rattle.rx_rules.specs.declared.events.PlaceEvent.{PlaceEvent}
use Rattle.rx_rules.specs.Code.{Block}
use Rattle.rx_rules.specs.Fold.{births}
use Rattle.rx_rules.specs.Terms.{Term, Empty, Vars, no_vars, items, Answer, answered, vars_after, Local, Done, does, begins, granted}
use Rattle.rx_rules.specs.Plays.{Cells, Moves, Starts, Tells, Fits, StartsSo, begun, brought, vars_told, cell_of, journal_at}
use Rattle.rx_rules.specs.Plays.{moves_from, birth_of, travels}

-- A task at `here` whose variables are vars and whose term is t, and which has begun the statements of the batch since its last
-- entry, is answered by these events and these entries, each in order. It makes exactly these entries; of the events it uses the
-- first ones, and the last list is what is left of them.
-- An event answers a call only where it is what the call makes: its kind, its operands and its path are those of the call. At
-- any other event the term stands still, so its later entries are not made. Stamps and the numbers of entries are not looked at.
pub data Makes (starts : Starts) (here : PlaceId) : Vars → Term → List (List ℕ) → Cells → Moves → Cells → Type 0 where
  local : {vars left : Vars} {t after : Term} {batch : List (List ℕ)} {cells rest : Cells} {moves : Moves}
      → does vars here.0 t ≡ Local after left → Makes starts here left after (begun t batch) cells moves rest
      → Makes starts here vars t batch cells moves rest
  stores : {vars : Vars} {t : Term} {batch : List (List ℕ)} {cells rest : Cells} {moves : Moves} {stamp : ℕ} {cell : Cell}
      {x : List ℕ} (a : Answer) → Tells (does vars here.0 t) here cell a → begins t ≡ Some x
      → Makes starts here (vars_after a vars) (answered a t) (begun t batch) cells moves rest
      → Makes starts here vars t batch ((stamp, cell, x) ∷ cells) moves rest
  asks : {vars : Vars} {t : Term} {batch : List (List ℕ)} {cells rest : Cells} {moves : Moves} {n : ℕ} {act : Act}
      → Fits here t (does vars here.0 t) act → StartsSo starts t vars act
      → Makes starts here (vars_told (does vars here.0 t) act vars) (granted (brought act) t) [] cells moves rest
      → Makes starts here vars t batch cells ((n, act, batch) ∷ moves) rest
  ends : {vars : Vars} {t : Term} {batch : List (List ℕ)} {cells : Cells} {n : ℕ} {faults : List Fault}
      → does vars here.0 t ≡ Done faults → Makes starts here vars t batch cells ((n, End faults, batch) ∷ []) cells
  -- all entries are made
  stops : {vars : Vars} {t : Term} {batch : List (List ℕ)} {cells : Cells} → Makes starts here vars t batch cells [] cells

-- what is asked of the stamp of an event: nothing, or that it lies between the entries of its task
pub data StampRule : Type 0 where
  AnyStamp : StampRule
  Between : StampRule

-- the stamp is at most the number of the next entry, if there is one
abbrev pub NotPast : ℕ → Moves → Type 0
NotPast stamp [] = Unit {0}
NotPast stamp (m ∷ moves) = stamp ≤ m.0

-- `low` is one more than the number of the last entry before the event that concerns its task, and moves are the entries to
-- come: the stamp is above the number of the one before, and at most that of the next
abbrev pub KeepsRule : StampRule → ℕ → ℕ → Moves → Type 0
KeepsRule AnyStamp low stamp moves = Unit {0}
KeepsRule Between low stamp moves = (low ≤ stamp) × NotPast stamp moves

-- Such a task makes event number k of these. It is answered by the events before it and by some of the entries, and comes to
-- where it asks what the event tells. The stamp keeps the rule.
pub data MakesEvent (rule : StampRule) (starts : Starts) (here : PlaceId)
    : ℕ → Vars → Term → List (List ℕ) → Cells → Moves → ℕ → Type 0 where
  now : {low : ℕ} {vars : Vars} {t : Term} {batch : List (List ℕ)} {cells : Cells} {moves : Moves} {stamp : ℕ} {cell : Cell}
      {x : List ℕ} (a : Answer) → KeepsRule rule low stamp moves → Tells (does vars here.0 t) here cell a → begins t ≡ Some x
      → MakesEvent rule starts here low vars t batch ((stamp, cell, x) ∷ cells) moves 0
  local : {low k : ℕ} {vars left : Vars} {t after : Term} {batch : List (List ℕ)} {cells : Cells} {moves : Moves}
      → does vars here.0 t ≡ Local after left → MakesEvent rule starts here low left after (begun t batch) cells moves k
      → MakesEvent rule starts here low vars t batch cells moves k
  stores : {low k : ℕ} {vars : Vars} {t : Term} {batch : List (List ℕ)} {cells : Cells} {moves : Moves} {stamp : ℕ} {cell : Cell}
      {x : List ℕ} (a : Answer) → Tells (does vars here.0 t) here cell a → begins t ≡ Some x
      → MakesEvent rule starts here low (vars_after a vars) (answered a t) (begun t batch) cells moves k
      → MakesEvent rule starts here low vars t batch ((stamp, cell, x) ∷ cells) moves (suc k)
  asks : {low k : ℕ} {vars : Vars} {t : Term} {batch : List (List ℕ)} {cells : Cells} {moves : Moves} {n : ℕ} {act : Act}
      → Fits here t (does vars here.0 t) act → StartsSo starts t vars act
      → MakesEvent rule starts here (suc n) (vars_told (does vars here.0 t) act vars) (granted (brought act) t) [] cells moves k
      → MakesEvent rule starts here low vars t batch cells ((n, act, batch) ∷ moves) k

-- Where a task travels, its arrival comes first, with no batch. P speaks of what comes after: of the number above the entry that
-- brought the task to its place, and of the entries left. A is what is said of a task that travels still.
abbrev pub Landing : (ℕ → Moves → Type 0) → Type 0 → Bool → ℕ → Moves → Type 0
Landing P A false low moves = P low moves
Landing P A true low [] = A
Landing P A true low ((n, Arrive p, batch) ∷ moves) = (batch ≡ []) × P (suc n) moves
Landing P A true low _ = ⊥

-- the events of task t in the journal of its place
abbrev pub cells_of : List Entry → List (List PlaceEvent) → ℕ → Cells
cells_of es js t = filter_map (cell_of t) (journal_at js (birth_of es t).to.0)

-- what comes after the landing of task t, with its birth and all its entries
abbrev pub AfterLanding : List Entry → ℕ → (ℕ → Moves → Type 0) → Type 0 → Type 0
AfterLanding es t P A = Landing P A (travels (birth_of es t)) (birth_of es t).low (moves_from 0 es t)

-- a task that starts so, answered by its events and entries, makes exactly these entries
abbrev pub TaskMakes : Starts → List Entry → List (List PlaceEvent) → ℕ → Term × Vars → Type 0
TaskMakes starts es js t s =
    AfterLanding es t (λ low moves. (rest : Cells) × Makes starts (birth_of es t).to s.1 s.0 [] (cells_of es js t) moves rest) (Unit {0})

-- a task that starts so makes event number k of its own, and its stamp keeps the rule
abbrev pub TaskMakesEvent : StampRule → Starts → List Entry → List (List PlaceEvent) → ℕ → Term × Vars → ℕ → Type 0
TaskMakesEvent rule starts es js t s k =
    AfterLanding es t (λ low moves. MakesEvent rule starts (birth_of es t).to low s.1 s.0 [] (cells_of es js t) moves k) ⊥

-- tasks t, t + 1, .. start so, and each makes exactly its entries
abbrev pub EachMakes : Starts → List Entry → List (List PlaceEvent) → ℕ → Starts → Type 0
EachMakes starts es js t [] = Unit {0}
EachMakes starts es js t (s ∷ more) = TaskMakes starts es js t s × EachMakes starts es js (suc t) more

-- these are the terms at the births of all tasks, task 0 first: each, answered by its events and entries, makes exactly its
-- entries, and each task that one of these starts begins as the term of its starter says
pub record Made (code : Block) (places : ℕ) (es : List Entry) (js : List (List PlaceEvent)) (starts : Starts) : Type 0 where
  pub main : slice_get starts 0 ≡ Some (items code [] Empty, no_vars places)
  pub all : length starts ≡ 1 + births es
  pub each : EachMakes starts es js 0 starts
