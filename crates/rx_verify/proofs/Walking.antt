-- One step of a walk.
use Rattle.std.proofs.Common.{◌≡◌, ℕ, zero, suc, ◌+◌, ◌<◌, ◌≤◌, false, List, [], ◌∷◌, ◌++◌, drop, length, map, Option, Some, Result, slice_get, refl, ap, sym, subst, ◌∙◌, arith, inl, inr}
use Rattle.std.specs.List.{filter_map}
use Rattle.std.proofs.lemmas.Option.{slice_get_within}
use Rattle.std.proofs.lemmas.Bool.{true≢false}
use Rattle.rx_rules.proofs.Common.{PlaceId, Value, Fault, TaskId, Term, Vars, Does, Local, Makes as Creates, Gets as Reading, Puts as Writing, Forgets as Freeing, does, begins, receives, answered, answer_of, vars_after, Answer, Cells, begun, cell_of, journal_at, Player}
use Rattle.rx_rules.specs.declared.events.Cell.{Cell}
use Rattle.rx_base.proofs.SameIds.{task-is}
use Rattle.rx_rules.specs.declared.events.PlaceEvent.{PlaceEvent}
use Rattle.rx_rules.specs.declared.events.PlaceEvent.TheVariants.{Done as Did}
use Rattle.rx_runs.specs.Steps.{steps, Sinks, TermSinks}
use Rattle.rx_runs.specs.Knowing.{LocalKnowing}
use Rattle.rx_history.specs.Events.{Events, AllEvents, events_of}
use Rattle.rx_syntax.specs.Shape.{Shape}
use Rattle.rx_history.specs.declared.step.CellOp.{CellOp}
use Rattle.rx_history.specs.declared.step.Next.{Next}
use Rattle.rx_history.specs.declared.step.Next.TheVariants.{Local as LocalStep, Cell as Calls}
use Rattle.rx_history.specs.Next.{next_of}
use Rattle.rx_control.specs.Stands.{StandsFor, AfterLocalStep}
use Rattle.rx_plan.proofs.Told.{told_local}
use Rattle.rx_store.specs.Asked.{Receives, CallIsTold}
use Rattle.rx_verdict.proofs.Walking.{walks_on}
use Rattle.rx_verdict.specs.Walks.{Walks, stays, local, stores, next_does, Halts}
use Rattle.rx_verify.specs.declared.along.Along.{Along}
use Rattle.rx_verify.specs.declared.seat.Seat.{Seat}
use Rattle.rx_verify.specs.Answers.{answers}
use Rattle.rx_verify.specs.Events.{IsFirst, IsOf}
use Rattle.rx_verify.specs.Along.{GoesAlong}
use Rattle.rx_verify.specs.Stood.{Stood, Walked}
use Rattle.rx_verify.specs.Inside.Steps.{GoesFurther}
use Rattle.rx_tree_laws.proofs.Beginning.{begins-so, begun_one}
use Rattle.rx_tree_laws.specs.TermSteps.{BeginsStatement}
use Rattle.rx_tree_laws.proofs.Receiving.{call-so}
use Rattle.rx_tree_laws.specs.TermSteps.{CallSo}
use Rattle.rx_verify.proofs.Following.{none_past, here_event}
use Rattle.rx_verify.proofs.Rows.{told_of}
use Rattle.rx_verify.proofs.Telling.{answers_tells}
use Rattle.rx_runs.proofs.Knowing.{answer_knows}

-- where no step is made
pub no_walk : (shape : Shape) (js : List (List PlaceEvent)) (seat : Seat) (z : Player) (left : Cells) → Stood shape js seat z left → Walked shape js seat seat z left z left
no_walk shape js seat z left s = record { who = refl; home = refl; low = refl; stood = s; walks = stays; known = refl }

-- what the control tells of the player
pub told_next : (shape : Shape) (js : List (List PlaceEvent)) (seat : Seat) (z : Player) (left : Cells) (n : Next) → Stood shape js seat z left → n ≡ next_of (does seat.control.vars seat.home.0 z.term) → next_of (next_does seat.home z) ≡ n
told_next shape js seat z left n s e = ap (λ (v : Vars). next_of (does v seat.home.0 z.term)) (sym s.vars) ∙ sym e

pub walked_local : (shape : Shape) (js : List (List PlaceEvent)) (old new : Seat) (was along : Along) (z : Player) (left : Cells) → TermSinks → LocalKnowing → Stood shape js old z left → next_of (next_does old.home z) ≡ LocalStep → AfterLocalStep shape new.control (does old.control.vars old.home.0 z.term) → new ≡ record old { control = new.control } → ((batch so_far : List (List ℕ)) → GoesAlong batch was so_far → GoesAlong batch along (begun z.term so_far)) → GoesFurther shape js old new was along z left
walked_local shape js old new was along z left sinks knows s e leaves same goes =
    let l = told_local (next_does old.home z) e in
    let after : Term = l.0 in
    let vars : Vars = l.1 in
    let is : next_does old.home z ≡ Local after vars = l.2 in
    let on : AfterLocalStep shape new.control (Local after vars) = subst (λ (d : Does). AfterLocalStep shape new.control d) is (subst (λ (v : Vars). AfterLocalStep shape new.control (does v old.home.0 z.term)) s.vars leaves) in
    let falls : steps after + 1 ≤ steps z.term = subst (λ (d : Does). Sinks z.term d) is (sinks z.vars old.home.0 z.term) in
    let few = s.few in
    let y : Player = record { term = after; vars = vars; batch = begun z.term z.batch } in (
      y,
      left,
      record {
        who = ap (λ (q : Seat). q.who) same;
        home = ap (λ (q : Seat). q.home) same;
        low = ap (λ (q : Seat). q.low) same;
        stood = record {
          term = on.0;
          vars = on.1;
          events = ap (λ (q : Seat). filter_map (cell_of q.who.task.0) (drop q.position (journal_at js q.home.0))) same ∙ s.events;
          first = subst (λ (q : Seat). IsFirst q.who.task.0 (journal_at js q.home.0) q.position q.position) (sym same) s.first;
          few = omega (arith, falls, few);
        };
        walks = local is stays;
        known = knows z.vars vars old.home.0 z.term after is;
      },
      falls,
      λ batch g. goes batch z.batch g,
    )

-- What is known of a store call: its statement, the name that waits, and that it leaves fewer steps.
pub record StoreCall (t : Term) (d : Does) : Type 0 where
  pub begins : (x : List ℕ) × (begins t ≡ Some x)
  pub receives : Receives d (receives t)
  pub sinks : (a : Answer) → steps (answered a t) + 1 ≤ steps t

store_call : (t : Term) (here : ℕ) (op : CellOp) (d : Does) → next_of d ≡ Calls op → BeginsStatement d (begins t) → CallSo here d (receives t) → Sinks t d → StoreCall t d
store_call t here op (Creates name words) e b c k = record { begins = b; receives = c; sinks = k }
store_call t here op (Reading name target index) e b c k = record { begins = b; receives = c.1; sinks = k }
store_call t here op (Writing target index value) e b c k = record { begins = b; receives = tt; sinks = k }
store_call t here op (Freeing target) e b c k = record { begins = b; receives = tt; sinks = k }
store_call t here op _ e b c k = absurd (let f : ⊥ = cc in f)

pub is_store_call : (here : PlaceId) (z : Player) (op : CellOp) → TermSinks → next_of (next_does here z) ≡ Calls op → StoreCall z.term (next_does here z)
is_store_call here z op sinks e = store_call z.term here.0 op (next_does here z) e (begins-so z.vars here.0 z.term) (call-so z.vars here.0 z.term) (sinks z.vars here.0 z.term)

-- The task's next event answers its call.
pub walked_store : (shape : Shape) (js : List (List PlaceEvent)) (old new : Seat) (was along : Along) (z : Player) (left rest : Cells) (op : CellOp) (x path : List ℕ) (stamp : ℕ) (cell : Cell) (answer : Result (Option Value) Fault) → TermSinks → Stood shape js old z left → next_of (next_does old.home z) ≡ Calls op → begins z.term ≡ Some x → left ≡ (stamp, cell, path) ∷ rest → x ≡ path → CallIsTold old.home op answer cell → StandsFor shape new.control (answered (answer_of (receives z.term) answer) z.term) → new.control.vars ≡ vars_after (answer_of (receives z.term) answer) old.control.vars → ((batch so_far : List (List ℕ)) → GoesAlong batch was so_far → GoesAlong batch along (so_far ++ path ∷ [])) → new.who ≡ old.who → new.home ≡ old.home → new.low ≡ old.low → filter_map (cell_of new.who.task.0) (drop new.position (journal_at js new.home.0)) ≡ rest → IsFirst new.who.task.0 (journal_at js new.home.0) new.position new.position → GoesFurther shape js old new was along z left
walked_store shape js old new was along z left rest op x path stamp cell answer sinks s e b events same told term vars goes who home low more first =
    let is = is_store_call old.home z op sinks e in
    let a : Answer = answer_of (receives z.term) answer in
    let falls : steps (answered a z.term) + 1 ≤ steps z.term = is.sinks a in
    let few = s.few in
    let y : Player = record { term = answered a z.term; vars = vars_after a z.vars; batch = begun z.term z.batch } in
    let known : (vars_after a z.vars).places ≡ z.vars.places = answer_knows a z.vars in
    let noted : begun z.term z.batch ≡ z.batch ++ path ∷ [] = begun_one z.term z.batch path (b ∙ ap (λ (w : List ℕ). Some w) same) in (
      y,
      rest,
      record {
        who = who;
        home = home;
        low = low;
        stood = record {
          term = term;
          vars = vars ∙ ap (λ (v : Vars). vars_after a v) s.vars;
          events = more;
          first = first;
          few = omega (arith, falls, few);
        };
        walks = subst (λ (l : Cells). Walks [] old.home z l [] y rest) (sym events)
            (stores a (told (next_does old.home z) (receives z.term) e is.receives) (b ∙ ap (λ (p : List ℕ). Some p) same) stays);
        known = known;
      },
      falls,
      λ batch g. subst (λ (l : List (List ℕ)). GoesAlong batch along l) (sym noted) (goes batch z.batch g),
    )

-- The task has no event left, or its next event does not answer its call.
pub none_halts : (here : PlaceId) (z : Player) (left : Cells) → left ≡ [] → Halts here z left
none_halts here z left e = subst (λ (l : Cells). Halts here z l) (sym e) tt

pub other_halts : (here : PlaceId) (z : Player) (left rest : Cells) (op : CellOp) (stamp : ℕ) (cell : Cell) (path : List ℕ) → next_of (next_does here z) ≡ Calls op → left ≡ (stamp, cell, path) ∷ rest → answers op cell ≡ false → Halts here z left
other_halts here z left rest op stamp cell path e events wrong =
    subst (λ (l : Cells). Halts here z l) (sym events) (λ answer tells b. absurd (true≢false (sym ((answers_tells (next_does here z) here op cell e).1 answer tells) ∙ wrong)))

pub path_halts : (here : PlaceId) (z : Player) (left rest : Cells) (stamp : ℕ) (cell : Cell) (x path : List ℕ) → begins z.term ≡ Some x → left ≡ (stamp, cell, path) ∷ rest → (x ≡ path → ⊥) → Halts here z left
path_halts here z left rest stamp cell x path begin events wrong =
    subst (λ (l : Cells). Halts here z l) (sym events) (λ answer tells b. wrong (let same : Some x ≡ Some path = sym begin ∙ b in cc))

-- two walks, one after the other
pub walked_twice : (shape : Shape) (js : List (List PlaceEvent)) (a b c : Seat) (z y w : Player) (left mid rest : Cells) → Walked shape js a b z left y mid → Walked shape js b c y mid w rest → Walked shape js a c z left w rest
walked_twice shape js a b c z y w left mid rest f g =
    record {
      who = g.who ∙ f.who;
      home = g.home ∙ f.home;
      low = g.low ∙ f.low;
      stood = g.stood;
      walks = walks_on [] a.home z y w left mid rest [] [] f.walks (subst (λ (p : PlaceId). Walks [] p y mid [] w rest) f.home g.walks);
      known = g.known ∙ f.known;
    }

-- The journal of a place among all journals.

pub journal_here : (l : List Events) (p : ℕ) (j : Events) → slice_get l p ≡ Some j → journal_at (map (λ j. j.events) l) p ≡ j.events
journal_here [] p j h = absurd (let f : ⊥ = cc in f)
journal_here (x ∷ l) zero j h = (let same : x ≡ j = cc in ap (λ (v : Events). v.events) same)
journal_here (x ∷ l) (suc p) j h = journal_here l p j h

journal_none : (l : List Events) (p : ℕ) → length l ≤ p → journal_at (map (λ j. j.events) l) p ≡ []
journal_none [] zero h = refl
journal_none [] (suc p) h = refl
journal_none (x ∷ l) zero h = absurd (omega (arith, h))
journal_none (x ∷ l) (suc p) h = journal_none l p (omega (arith, h))

pub left_out : (shape : Shape) (a : AllEvents) (seat : Seat) (z : Player) (left : Cells) → Stood shape (events_of a) seat z left → length a.journals ≤ seat.home.0 → left ≡ []
left_out shape a seat z left s h =
    sym s.events
    ∙ (ap (λ (j : List PlaceEvent). filter_map (cell_of seat.who.task.0) (drop seat.position j)) (journal_none a.journals seat.home.0 h)
    ∙ none_past seat.who.task.0 [] seat.position (omega arith))

pub left_is : (shape : Shape) (a : AllEvents) (seat : Seat) (z : Player) (left all : Cells) (j : Events) → Stood shape (events_of a) seat z left → slice_get a.journals seat.home.0 ≡ Some j → filter_map (cell_of seat.who.task.0) (drop seat.position j.events) ≡ all → left ≡ all
left_is shape a seat z left all j s h e =
    sym s.events ∙ (ap (λ (k : List PlaceEvent). filter_map (cell_of seat.who.task.0) (drop seat.position k)) (journal_here a.journals seat.home.0 j h) ∙ e)

-- where there is an event at the seat's position, it is its task's
pub is_here : (shape : Shape) (a : AllEvents) (seat : Seat) (z : Player) (left : Cells) (j : Events) → Stood shape (events_of a) seat z left → slice_get a.journals seat.home.0 ≡ Some j → seat.position < length j.events → IsOf seat.who.task.0 (journal_at (events_of a) seat.home.0) seat.position
is_here shape a seat z left j s at within =
    elim s.first.here [
      | inl end ↦
          let size = ap (λ (k : List PlaceEvent). length k) (journal_here a.journals seat.home.0 j at) in
          absurd (omega (arith, end, size, within))
      | inr is ↦ is
    ]

-- and the first of those left
pub event_left : (shape : Shape) (a : AllEvents) (seat : Seat) (z : Player) (left : Cells) (j : Events) (x : PlaceEvent) (u : TaskId) (stamp : ℕ) (cell : Cell) (path : List ℕ) → Stood shape (events_of a) seat z left → slice_get a.journals seat.home.0 ≡ Some j → slice_get j.events seat.position ≡ Some x → x ≡ Did u stamp cell path → left ≡ (stamp, cell, path) ∷ filter_map (cell_of seat.who.task.0) (drop (suc seat.position) (journal_at (events_of a) seat.home.0))
event_left shape a seat z left j x u stamp cell path s h at is =
    let k = journal_at (events_of a) seat.home.0 in
    let same : k ≡ j.events = journal_here a.journals seat.home.0 j h in
    let there : slice_get k seat.position ≡ Some x = ap (λ (l : List PlaceEvent). slice_get l seat.position) same ∙ at in
    let mine = is_here shape a seat z left j s h (slice_get_within j.events seat.position x at) in
    let task : u ≡ seat.who.task = task-is u seat.who.task (told_of seat.who.task.0 k seat.position u stamp cell path (there ∙ ap (λ (v : PlaceEvent). Some v) is) mine) in
    here_event seat.who.task k seat.position x stamp cell path left there (is ∙ ap (λ (v : TaskId). Did v stamp cell path) task) (sym s.events)
