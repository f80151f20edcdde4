-- A task's term, answered by its events and entries, makes exactly these.
use Rattle.std.specs.Prelude.{◌≡◌, ℕ, suc, pos, ◌+◌, ◌≤◌, Bool, true, false, cond, ◌==◌, List, [], ◌∷◌, ◌++◌, Option, Some, None}
use Rattle.std.specs.Prelude.{slice_get, length, map, not}
use Rattle.std.specs.List.{filter_map, cons_option}
use Rattle.rx_base.specs.declared.ids.PlaceId.{PlaceId}
use Rattle.rx_base.specs.declared.ids.TaskId.{TaskId}
use Rattle.rx_base.specs.declared.place_set.PlaceSet.{PlaceSet}
use Rattle.rx_base.specs.Sets.{members}
use Rattle.rx_base.specs.declared.values.Value.TheVariants.{Num as Number, Ref}
use Rattle.rx_base.specs.declared.values.Fault.{Fault}
use Rattle.rx_base.specs.declared.values.Fault.TheVariants.{Dead, Stale, Index, HeapFull}
use Rattle.rx_rules.specs.declared.entries.Act.{Act}
use Rattle.rx_rules.specs.declared.entries.Act.TheVariants.{Open, At as Calls, Spawn, Arrive, Wait, Release, End, Print, Census}
use Rattle.rx_rules.specs.declared.entries.Entry.{Entry}
use Rattle.rx_rules.specs.declared.entries.Entry.TheVariants.{Step}
use Rattle.rx_rules.specs.declared.events.Cell.{Cell}
use Rattle.rx_rules.specs.declared.events.Cell.TheVariants.{Make, MakeFull, Get, Put, Forget, GetRefused, PutRefused, ForgetStale}
use Rattle.rx_rules.specs.declared.events.PlaceEvent.{PlaceEvent}
use Rattle.rx_rules.specs.declared.events.PlaceEvent.TheVariants.{Done as Did, Close}
use Rattle.rx_rules.specs.Code.{Block}
use Rattle.rx_rules.specs.Fold.{births}
use Rattle.rx_rules.specs.Terms.{Term, Empty, Vars, no_vars, Answer, Gives, Fine, Fails, answered, vars_after, Does, Local, Makes, Gets}
use Rattle.rx_rules.specs.Terms.{Puts, Forgets, Opens, Calls as Asks, Spawns, Waits, Releases, Prints, Counts, Done, does, begins}
use Rattle.rx_rules.specs.Terms.{bound, granted, child, items}

-- the faults that a release raises: one for each place, and then those thrown
abbrev pub raised_by : PlaceSet → List Fault → List Fault
raised_by lost thrown = map (λ p. Dead (record { 0 = p })) (members lost) ++ thrown

-- the batch with the statement that the next step begins
abbrev pub begun : Term → List (List ℕ) → List (List ℕ)
begun t batch = elim (begins t) [ Some x ↦ batch ++ x ∷ [] | None ↦ batch ]

-- the event is what the term asks of the store, and tells this answer
abbrev pub Tells : Does → PlaceId → Cell → Answer → Type 0
Tells (Makes name words) here (Make n start generation) a =
    (n ≡ words) × (a ≡ Gives name (Ref (record { home = here; start = start; generation = generation })))
Tells (Makes name words) here (MakeFull n) a = (n ≡ words) × (a ≡ Fails HeapFull)
Tells (Gets name target index) here (Get r i value) a = (r ≡ target) × (i ≡ index) × (a ≡ Gives name (Number value))
Tells (Gets name target index) here (GetRefused r i stale) a =
    (r ≡ target) × (i ≡ index) × (a ≡ Fails (cond stale Stale Index))
Tells (Puts target index value) here (Put r i v) a = (r ≡ target) × (i ≡ index) × (v ≡ value) × (a ≡ Fine)
Tells (Puts target index value) here (PutRefused r i v stale) a =
    (r ≡ target) × (i ≡ index) × (v ≡ value) × (a ≡ Fails (cond stale Stale Index))
Tells (Forgets target) here (Forget r) a = (r ≡ target) × (a ≡ Fine)
Tells (Forgets target) here (ForgetStale r) a = (r ≡ target) × (a ≡ Fails Stale)
Tells _ here cell a = ⊥

-- the events of a task, each with its stamp and path
abbrev pub Cells : Type 0
Cells = List (ℕ × Cell × List ℕ)

-- the entries of a task, each with its number and batch
abbrev pub Moves : Type 0
Moves = List (ℕ × Act × List (List ℕ))

-- each task's term and variables at its birth
abbrev pub Starts : Type 0
Starts = List (Term × Vars)

-- the act is what the term asks of the ledger
abbrev pub Fits : PlaceId → Term → Does → Act → Type 0
Fits here t Opens (Open s r x) = begins t ≡ Some x
Fits here t (Asks place) (Calls from to s r c x) = (to.0 ≡ place) × (from ≡ here) × (begins t ≡ Some x)
Fits here t (Spawns place) (Spawn c s from to x) = (to.0 ≡ place) × (from ≡ here) × (begins t ≡ Some x)
Fits here t (Waits faults) (Wait s thrown) = thrown ≡ faults
Fits here t Releases (Release s lost masked thrown) = Unit {0}
Fits here t (Prints value) (Print z x) = (z ≡ value) × (begins t ≡ Some x)
Fits here t (Counts name) (Census n x) = begins t ≡ Some x
Fits here t _ act = ⊥

-- the task that an act starts
abbrev pub started_by : Act → Option TaskId
started_by (Calls from to s r c x) = Some c
started_by (Spawn c s from to x) = Some c
started_by _ = None

-- the task that the act starts begins with the child's term and a copy of the variables
abbrev pub StartsSo : Starts → Term → Vars → Act → Type 0
StartsSo starts t vars act =
    elim (started_by act) [ Some c ↦ slice_get starts c.0 ≡ Some (child t, vars) | None ↦ Unit {0} ]

-- the faults that a granted request brings
abbrev pub brought : Act → List Fault
brought (Release s lost masked thrown) = raised_by lost thrown
brought _ = []

-- what the task knows after an act: a census tells it the number of places
abbrev pub vars_told : Does → Act → Vars → Vars
vars_told (Counts name) (Census n x) vars = record (bound name (Number (pos n)) vars) { places = n }
vars_told _ act vars = vars

-- A task at `here` that has these variables and this term, and that has begun the statements of the batch since its last
-- entry, makes these events and these moves, each in order. A struck task stops anywhere: that others do not is a law. No
-- stamp and no number is below `low`: that is the stamp of its event before, or one more than the number of its last entry.
pub data Plays (starts : List (Term × Vars)) (here : PlaceId)
    : ℕ → Vars → Term → List (List ℕ) → Cells → Moves → Type 0 where
  local : {low : ℕ} {vars left : Vars} {t after : Term} {batch : List (List ℕ)} {cells : Cells} {moves : Moves} →
      does vars here.0 t ≡ Local after left → Plays starts here low left after (begun t batch) cells moves →
      Plays starts here low vars t batch cells moves
  stores : {low : ℕ} {vars : Vars} {t : Term} {batch : List (List ℕ)} {cells : Cells} {moves : Moves}
      {stamp : ℕ} {cell : Cell} {x : List ℕ} (a : Answer) →
      low ≤ stamp → Tells (does vars here.0 t) here cell a → begins t ≡ Some x →
      Plays starts here stamp (vars_after a vars) (answered a t) (begun t batch) cells moves →
      Plays starts here low vars t batch ((stamp, cell, x) ∷ cells) moves
  asks : {low : ℕ} {vars : Vars} {t : Term} {batch : List (List ℕ)} {cells : Cells} {moves : Moves}
      {n : ℕ} {act : Act} →
      low ≤ n → Fits here t (does vars here.0 t) act → StartsSo starts t vars act →
      Plays starts here (suc n) (vars_told (does vars here.0 t) act vars) (granted (brought act) t) [] cells moves →
      Plays starts here low vars t batch cells ((n, act, batch) ∷ moves)
  ends : {low : ℕ} {vars : Vars} {t : Term} {batch : List (List ℕ)} {n : ℕ} {faults : List Fault} →
      low ≤ n → does vars here.0 t ≡ Done faults → Plays starts here low vars t batch [] ((n, End faults, batch) ∷ [])
  stops : {low : ℕ} {vars : Vars} {t : Term} {batch : List (List ℕ)} → Plays starts here low vars t batch [] []

-- where a task travels, its arrival comes first
abbrev pub BeginsWithArrival : Starts → PlaceId → Bool → ℕ → Vars → Term → Cells → Moves → Type 0
BeginsWithArrival starts here false low vars t cells moves = Plays starts here low vars t [] cells moves
BeginsWithArrival starts here true low vars t cells [] = cells ≡ []
BeginsWithArrival starts here true low vars t cells ((n, Arrive p, batch) ∷ moves) =
    (batch ≡ []) × Plays starts here (suc n) vars t [] cells moves
BeginsWithArrival starts here true low vars t cells _ = ⊥

-- Reading a history.

-- the entry, if it is of task t: its number, act and batch
abbrev pub move_of : ℕ → ℕ → Entry → Option (ℕ × Act × List (List ℕ))
move_of n t (Step u act batch) = cond (u.0 == t) (Some (n, act, batch)) None
move_of n t _ = None

-- the entries of task t from entry n on
abbrev pub moves_from : ℕ → List Entry → ℕ → List (ℕ × Act × List (List ℕ))
moves_from n [] t = []
moves_from n (e ∷ es) t = cons_option (move_of n t e) (moves_from (suc n) es t)

-- the event, if it is of task t: its stamp, cell and path
abbrev pub cell_of : ℕ → PlaceEvent → Option (ℕ × Cell × List ℕ)
cell_of t (Did u stamp cell path) = cond (u.0 == t) (Some (stamp, cell, path)) None
cell_of t (Close stamp) = None

-- the journal of a place
abbrev pub journal_at : List (List PlaceEvent) → ℕ → List PlaceEvent
journal_at js p = elim (slice_get js p) [ Some j ↦ j | None ↦ [] ]

-- from where to where a task was started, and one more than the number of its birth
pub record Birth : Type 0 where
  pub from : PlaceId
  pub to : PlaceId
  pub low : ℕ

-- the birth of task t, if entry n is it
abbrev pub birth_in : ℕ → ℕ → Entry → Option Birth
birth_in n t (Step u (Calls from to s r c x) batch) =
    cond (c.0 == t) (Some (record { from = from; to = to; low = suc n })) None
birth_in n t (Step u (Spawn c s from to x) batch) =
    cond (c.0 == t) (Some (record { from = from; to = to; low = suc n })) None
birth_in n t _ = None

-- the birth of task t among the entries from n on; task 0 is at place 0 from the start
abbrev pub birth_from : ℕ → List Entry → ℕ → Birth
birth_from n [] t = record { from = record { 0 = 0 }; to = record { 0 = 0 }; low = 0 }
birth_from n (e ∷ es) t = elim (birth_in n t e) [ Some b ↦ b | None ↦ birth_from (suc n) es t ]

-- the birth of task t in a history
abbrev pub birth_of : List Entry → ℕ → Birth
birth_of es t = birth_from 0 es t

-- it was started for another place
abbrev pub travels : Birth → Bool
travels b = not (b.from.0 == b.to.0)

-- tasks n, n + 1, .. start so, and each makes exactly its events and entries
abbrev pub EachPlays : Starts → List Entry → List (List PlaceEvent) → ℕ → Starts → Type 0
EachPlays starts es js n [] = Unit {0}
EachPlays starts es js n (s ∷ more) =
    BeginsWithArrival starts (birth_of es n).to (travels (birth_of es n)) (birth_of es n).low s.1 s.0
    (filter_map (cell_of n) (journal_at js (birth_of es n).to.0))
    (moves_from 0 es n)
    × EachPlays starts es js (suc n) more

-- each task's term, answered by its events and entries, makes exactly these; task 0 knows the places of the setup
pub record Played (code : Block) (places : ℕ) (es : List Entry) (js : List (List PlaceEvent)) : Type 0 where
  pub starts : List (Term × Vars)
  pub main : slice_get starts 0 ≡ Some (items code [] Empty, no_vars places)
  pub all : length starts ≡ 1 + births es
  pub each : EachPlays starts es js 0 starts
