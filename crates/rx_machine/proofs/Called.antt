-- The store call of a task.
use Rattle.std.proofs.Common.{◌≡◌, ℕ, zero, suc, ◌+◌, ◌*◌, ◌^◌, ◌<◌, ◌≤◌, max, false, List, [], ◌∷◌, ◌++◌, reverse, length, Option, Some, None, Result, slice_get, slice_set, refl, ap, ◌∙◌, sym, subst, arith}
use Rattle.rx_rules.proofs.Common.{PlaceId, TaskId, Value, Fault, Block, work, items, at, Answer, answered, vars_after, answer_of, does, begins, receives, State, opening_state, MayCell, after_cell, Tells, begun, journal_at, Given, in_all, Proper, death_number, Game, Player, RunsWithoutEntry, stays, local, stores, tree_in}
use Rattle.rx_rules.specs.declared.tasks.Task.{Task}
use Rattle.rx_rules.specs.declared.tasks.Where.TheVariants.{At as IsAt}
use Rattle.rx_rules.specs.declared.events.Cell.{Cell}
use Rattle.rx_rules.specs.declared.events.PlaceEvent.{PlaceEvent}
use Rattle.rx_rules.specs.declared.events.PlaceEvent.TheVariants.{Done as Did, Close}
use Rattle.rx_base.proofs.SameIds.{place-is}
use Rattle.rx_base.proofs.Elements.{get-set}
use Rattle.rx_rules.specs.declared.tasks.Task.{Task}
use Rattle.rx_rules.specs.declared.tasks.Where.TheVariants.{At as IsAt}
use Rattle.rx_rules.specs.declared.events.Cell.{Cell}
use Rattle.rx_rules.specs.declared.events.PlaceEvent.{PlaceEvent}
use Rattle.rx_rules.specs.declared.events.PlaceEvent.TheVariants.{Done as Did, Close}
use Rattle.rx_runs.specs.Steps.{steps, TermSinks}
use Rattle.rx_runs.specs.Games.{Leads, rests, steps as more, NotAbove, JournalSo, GameOk}
use Rattle.rx_runs.specs.Ties.{RowSo}
use Rattle.rx_runs.specs.Coming.{CameTo, GamesCome}
use Rattle.rx_runs.specs.Events.{FewEvents, GoingTells}
use Rattle.rx_runs.specs.SomeWords.{TermMakesSome, ComesSome, GoesSome}
use Rattle.rx_runs.proofs.Pairs.{pairs-get}
use Rattle.rx_runs.proofs.Rows.{row-found}
use Rattle.rx_syntax.specs.Shape.{Shape}
use Rattle.rx_store.specs.Kept.{StoreView, state_from, state_of, closed_from, ends_closed, stamp_from, last_stamp}
use Rattle.rx_store.specs.Answers.{event_told}
use Rattle.rx_store.specs.declared.calls.Mark.{Mark}
use Rattle.rx_store.proofs.Running.{state_done, closed_done, stamp_done}
use Rattle.rx_history.specs.declared.step.CellOp.{CellOp}
use Rattle.rx_history.specs.declared.step.Next.TheVariants.{Cell as CellStep}
use Rattle.rx_history.specs.Next.{next_of}
use Rattle.rx_control.specs.Stands.{StandsFor}
use Rattle.rx_machine.specs.declared.machine.Machine.{Machine}
use Rattle.rx_machine.specs.declared.seat.Mover.{Mover}
use Rattle.rx_tree_laws.specs.Held.{is_held, HeldInFront}
use Rattle.rx_machine.specs.Slots.{row_of, live_task, own_kinds, seat_of}
use Rattle.rx_store.specs.Kepts.{StoresAre}
use Rattle.rx_machine.specs.Holds.{Acting}
use Rattle.rx_machine.specs.Inside.Requests.{OnlyStores, AfterStep}
use Rattle.rx_store.specs.Asked.{CallMade}
use Rattle.rx_machine.proofs.Live.{live_stands}
use Rattle.rx_tree_laws.proofs.Beginning.{begins-so, begun_one}
use Rattle.rx_tree_laws.proofs.Receiving.{call-so}
use Rattle.rx_store.proofs.StoreCalls.{IsCall, is_call}
use Rattle.rx_tree_laws.proofs.SpineGrants.{answer_spine, begun_is}
use Rattle.rx_machine.proofs.Stepping.{goes-stores, acting-on, moved-seat}
use Rattle.rx_tree_laws.proofs.Granting.{answer_waits, not_held}

-- Stores by their places.

pub stores-at : (heap p : ℕ) (ss : List StoreView) (js : List (List PlaceEvent)) (n : ℕ) (j : List PlaceEvent) → StoresAre heap p ss js → slice_get js n ≡ Some j → (s : StoreView) × (slice_get ss n ≡ Some s) × (s.place.0 ≡ p + n) × (s.words ≡ heap) × (s.events ≡ j)
stores-at heap p [] [] n j h e = absurd (let f : ⊥ = cc in f)
stores-at heap p (s ∷ ss) (l ∷ js) zero j h e = (s, refl, (let w : s.place.0 ≡ p = h.0 in omega (arith, w)), h.1, h.2 ∙ (let w : l ≡ j = cc in w))
stores-at heap p (s ∷ ss) (l ∷ js) (suc n) j h e =
    let r = stores-at heap (suc p) ss js n j h.3 e in (r.0, r.1, (let w : r.0.place.0 ≡ suc p + n = r.2 in omega (arith, w)), r.3, r.4)
stores-at heap p [] (l ∷ js) n j h e = absurd h
stores-at heap p (s ∷ ss) [] n j h e = absurd h

pub stores-set : (heap p : ℕ) (ss : List StoreView) (js : List (List PlaceEvent)) (n : ℕ) (s : StoreView) (j : List PlaceEvent) → StoresAre heap p ss js → s.place.0 ≡ p + n → s.words ≡ heap → s.events ≡ j → StoresAre heap p (slice_set ss n s) (slice_set js n j)
stores-set heap p [] [] n s j h at words events = tt
stores-set heap p (t ∷ ss) (l ∷ js) zero s j h at words events = ((let w : s.place.0 ≡ p + 0 = at in omega (arith, w)), words, events, h.3)
stores-set heap p (t ∷ ss) (l ∷ js) (suc n) s j h at words events = (h.0, h.1, h.2, stores-set heap (suc p) ss js n s j h.3 (let w : s.place.0 ≡ p + suc n = at in omega (arith, w)) words events)
stores-set heap p [] (l ∷ js) n s j h at words events = absurd h
stores-set heap p (t ∷ ss) [] n s j h at words events = absurd h

set-twice : {X : Type 0} (xs : List X) (n : ℕ) (a b : X) → slice_set (slice_set xs n a) n b ≡ slice_set xs n b
set-twice [] n a b = refl
set-twice (x ∷ xs) zero a b = refl
set-twice (x ∷ xs) (suc n) a b = ap (λ l. x ∷ l) (set-twice xs n a b)

-- An open journal.

-- the journal leads to this store, no close ends it, and its last stamp is at most n
pub record JournalIs (n : ℕ) (S : State) (j : List PlaceEvent) : Type 0 where
  pub state : state_of j ≡ S
  pub is_open : ends_closed j ≡ false
  pub last : last_stamp j ≤ n

leads-state : {w : ℕ} {S Z : State} {j : List PlaceEvent} → Leads w S j Z → state_from S j ≡ Z
leads-state rests = refl
leads-state (more t n cell x may h) = leads-state h

pub leads-open : {w : ℕ} {S Z : State} {j : List PlaceEvent} → Leads w S j Z → closed_from false j ≡ false
leads-open rests = refl
leads-open (more t n cell x may h) = leads-open h

pub stamp-most : (n s : ℕ) (j : List PlaceEvent) → s ≤ n → NotAbove n j → stamp_from s j ≤ n
stamp-most n s [] le h = le
stamp-most n s (Did task stamp cell path ∷ j) le h = stamp-most n stamp j h.0 h.1
stamp-most n s (Close stamp ∷ j) le h = stamp-most n stamp j h.0 h.1

goes-is : {heap n : ℕ} {t : TaskId} {here : PlaceId} {p q : Player} {S Z : State} {j k : List PlaceEvent} → RunsWithoutEntry heap n t here p S j q Z k → JournalIs n S j → JournalIs n Z k
goes-is stays h = h
goes-is (local e g) h = goes-is g h
goes-is {n = n} {t = t} {j = j} (stores cell x a told b may g) h =
    goes-is g (record {
      state = state_done opening_state j t n cell x ∙ ap (λ v. after_cell v cell) h.state;
      is_open = closed_done false j t n cell x;
      last = (let e : last_stamp (j ++ Did t n cell x ∷ []) ≡ n = stamp_done 0 j t n cell x in omega (arith, e));
    })

-- the journal of the place of an unstruck task
journal-is : (code : Block) (U : Given) (G : Game) (i : ℕ) (row : Task) (here : PlaceId) (S : State) → GameOk code U G → live_task (tree_in U G) i ≡ Some row → row.place ≡ IsAt here → here.0 < in_all U → slice_get G.stores here.0 ≡ Some S → JournalIs (length G.entries) S (journal_at G.journals here.0)
journal-is code U G i row here S ok live is_at place store =
    let both = pairs-get 0 here.0 G.journals G.stores (rw ok.one_each place) ok.journals in
    let so : JournalSo U G.entries here.0 both.left both.right = (let z : 0 + here.0 ≡ here.0 = omega arith in subst (λ (v : ℕ). JournalSo U G.entries v both.left both.right) z both.holds) in
    let same : both.right ≡ S = (let e : Some both.right ≡ Some S = sym both.at_right ∙ store in cc) in
    let found = live_stands (tree_in U G) i row live in
    let so_row : RowSo G.entries i row.place = (row-found (record { 0 = i }) row (length ok.starts) G.entries (tree_in U G).tasks found.0 found.1 ok.ties.rows).1 in
    let row_here : RowSo G.entries i (IsAt here) = subst (λ w. RowSo G.entries i w) is_at so_row in
    let lives : death_number 0 here G.entries ≡ None = subst (λ (p : PlaceId). death_number 0 p G.entries ≡ None) row_here.place.0 row_here.lives in
    let leads : Leads U.heap opening_state both.left both.right = so.live lives in
    let is : JournalIs (length G.entries) both.right both.left = record { state = leads-state leads; is_open = leads-open leads; last = stamp-most (length G.entries) 0 both.left (omega arith) so.top } in
    let journal : both.left ≡ journal_at G.journals here.0 = sym (ap (λ (o : Option (List PlaceEvent)). elim o as (λ _. List PlaceEvent) [ Some j ↦ j | None ↦ [] ]) both.at_left) in
    subst (λ (v : State). JournalIs (length G.entries) v (journal_at G.journals here.0)) same (subst (λ (l : List PlaceEvent). JournalIs (length G.entries) both.right l) journal is)

-- the store of the place of a task that acts has the words of the heap, and the events of its walk
pub record StoreIs {L : Type 0} (U : Given) (m : Machine L) (here : PlaceId) (G : Game) (Z : State) (l : List PlaceEvent) (old : StoreView) : Type 0 where
  pub found : slice_get m.stores.items here.0 ≡ Some old
  pub place : old.place ≡ here
  pub words : old.words ≡ U.heap
  pub events : old.events ≡ l
  pub journal : JournalIs (length G.entries) Z l

-- the mark's event
event-is : (n : ℕ) (t : TaskId) (x : List ℕ) (es : List PlaceEvent) (mark : Mark) (cell : Cell) → mark.task ≡ t → mark.stamp ≡ n → mark.path ≡ x → last_stamp es ≤ n → event_told es mark cell ≡ Did t n cell x
event-is n t x es mark cell task stamp path last =
    let most : max mark.stamp (last_stamp es) ≡ n = ap (λ v. max v (last_stamp es)) stamp ∙ max-left n (last_stamp es) last in
    ap (λ v. Did v (max mark.stamp (last_stamp es)) cell mark.path) task ∙ (ap (λ v. Did t v cell mark.path) most ∙ ap (λ v. Did t n cell v) path)
  where
    max-left : (n s : ℕ) → s ≤ n → max n s ≡ n
    max-left n s le = omega arith

module _ {L : Type 0} {shape : Shape} {code : Block} {U : Given} {m : Machine L} {k i : ℕ} {here : PlaceId} {q : Player} {mover : Mover} {G : Game} (a : Acting shape code U m k i here q mover G) where
  -- the call that is next
  pub call_is : (op : CellOp) → TermSinks → ComesSome → GoesSome → next_of (does q.vars here.0 q.term) ≡ CellStep op → IsCall q.term here op (does q.vars here.0 q.term)
  call_is op sink comes goes e =
      let began : TermMakesSome a.began.term = comes code U G a.but.shares.on.makes a.but.shares.comes i a.began a.gone.player in
      let both = goes U.heap (length G.entries) mover.who.task here a.began q a.store a.left (journal_at G.journals here.0) a.events a.gone.goes began in
      is_call q.term here op (does q.vars here.0 q.term) e (begins-so q.vars here.0 q.term) (call-so q.vars here.0 q.term) (both.1 q.vars) (sink q.vars here.0 q.term)

  -- the store of the place
  pub store_is : GamesCome → (old : StoreView) × StoreIs U m here G a.left a.events old
  store_is come =
      let came : CameTo code U G = come code U G a.but.shares.on.proper a.but.shares.comes a.pick.stands in
      let ok = came.ok in
      let low : here.0 < length G.journals = rw ok.one_each a.stored in
      let at : slice_get (slice_set G.journals here.0 a.events) here.0 ≡ Some a.events = get-set G.journals here.0 a.events low in
      let s = stores-at U.heap 0 m.stores.items (slice_set G.journals here.0 a.events) here.0 a.events a.stores at in
      let start : JournalIs (length G.entries) a.store (journal_at G.journals here.0) = journal-is code U G i (row_of (seat_of mover)) here a.store ok a.gone.seat_is.row a.gone.is_at a.stored a.gone.store in (
        s.0,
        record {
          found = s.1;
          place = place-is s.0.place here (let w : s.0.place.0 ≡ 0 + here.0 = s.2 in omega (arith, w));
          words = s.3;
          events = s.4;
          journal = goes-is a.gone.goes start;
        },
      )

  -- its journal is short
  pub events_few : GamesCome → FewEvents → GoingTells → length a.events < 2 ^ 31
  events_few come most tells =
      let proper : Proper U = a.but.shares.on.proper in
      let few : work code ≤ 100000 = a.but.shares.on.few in
      let came : CameTo code U G = come code U G proper a.but.shares.comes a.pick.stands in
      let found = live_stands (tree_in U G) i (row_of (seat_of mover)) a.gone.seat_is.row in
      let row : RowSo G.entries i mover.who.place = (row-found (record { 0 = i }) (row_of (seat_of mover)) (length came.ok.starts) G.entries (tree_in U G).tasks found.0 found.1 came.ok.ties.rows).1 in
      let first : length (journal_at G.journals here.0) + steps a.began.term ≤ 3 * work code + length G.entries = most code U G proper a.but.shares.comes here.0 i a.began a.gone.player row.going in
      let rest : length a.events + steps q.term ≤ length (journal_at G.journals here.0) + steps a.began.term = tells U.heap (length G.entries) mover.who.task here a.began q a.store a.left (journal_at G.journals here.0) a.events a.gone.goes in
      let entries : length G.entries ≤ 4 * work code + U.places + 2 * length U.joins = came.entries in
      let places : U.places + length U.joins ≤ 16 = proper.few in omega (arith, first, rest, entries, places, few)

  -- and so is the history
  pub entries_few : GamesCome → length m.chronicle.entries < 2 ^ 31
  entries_few come =
      let came : CameTo code U G = come code U G a.but.shares.on.proper a.but.shares.comes a.pick.stands in
      let few : work code ≤ 100000 = a.but.shares.on.few in
      let most : length G.entries ≤ 4 * work code + U.places + 2 * length U.joins = came.entries in
      let places : U.places + length U.joins ≤ 16 = a.but.shares.on.proper.few in
      let same : length m.chronicle.entries ≡ length G.entries = ap length a.but.shares.entries in omega (arith, few, most, places, same)

  -- a store call lengthens the walk by its event
  pub call-told : (op : CellOp) (answer : Result (Option Value) Fault) (x : List ℕ) (old new : StoreView) (mark : Mark) (items : List StoreView) → IsCall q.term here op (does q.vars here.0 q.term) → begins q.term ≡ Some x → next_of (does q.vars here.0 q.term) ≡ CellStep op → StoreIs U m here G a.left a.events old → items ≡ slice_set m.stores.items here.0 new → mark.task ≡ mover.who.task → mark.stamp ≡ length G.entries → mark.path ≡ x → CallMade old new mark op answer → (Z : State) × (l : List PlaceEvent) × RunsWithoutEntry U.heap (length G.entries) mover.who.task here a.began a.store (journal_at G.journals here.0) (record { term = answered (answer_of (receives q.term) answer) q.term; vars = vars_after (answer_of (receives q.term) answer) q.vars; batch = begun q.term q.batch }) Z l × StoresAre U.heap 0 items (slice_set G.journals here.0 l)
  call-told op answer x old new mark items c b e is put task stamp path asked =
      let t : TaskId = mover.who.task in
      let ans : Answer = answer_of (receives q.term) answer in
      let cell : Cell = asked.cell in
      let told : Tells (does q.vars here.0 q.term) here cell ans = subst (λ (p : PlaceId). Tells (does q.vars here.0 q.term) p cell ans) is.place (asked.told (does q.vars here.0 q.term) (receives q.term) e c.receives) in
      let state : state_of old.events ≡ a.left = ap state_of is.events ∙ is.journal.state in
      let may : MayCell U.heap a.left cell = subst (λ (S : State). MayCell U.heap S cell) state (subst (λ (w : ℕ). MayCell w (state_of old.events) cell) is.words asked.law) in
      let last : last_stamp old.events ≤ length G.entries = (let w : last_stamp old.events ≡ last_stamp a.events = ap last_stamp is.events in let v : last_stamp a.events ≤ length G.entries = is.journal.last in omega (arith, w, v)) in
      let event : event_told old.events mark cell ≡ Did t (length G.entries) cell x = event-is (length G.entries) t x old.events mark cell task stamp path last in
      let longer : List PlaceEvent = a.events ++ Did t (length G.entries) cell x ∷ [] in
      let events : new.events ≡ longer = asked.events ∙ (ap (λ v. old.events ++ v ∷ []) event ∙ ap (λ l. l ++ Did t (length G.entries) cell x ∷ []) is.events) in
      let place : new.place.0 ≡ 0 + here.0 = (let w : new.place.0 ≡ here.0 = ap (λ (p : PlaceId). p.0) (asked.place ∙ is.place) in omega (arith, w)) in
      let kept : StoresAre U.heap 0 (slice_set m.stores.items here.0 new) (slice_set (slice_set G.journals here.0 a.events) here.0 longer) = stores-set U.heap 0 m.stores.items (slice_set G.journals here.0 a.events) here.0 new longer a.stores place (asked.words ∙ is.words) events in
      let stored : StoresAre U.heap 0 items (slice_set G.journals here.0 longer) = subst (λ (ss : List StoreView). StoresAre U.heap 0 ss (slice_set G.journals here.0 longer)) (sym put) (subst (λ (js : List (List PlaceEvent)). StoresAre U.heap 0 (slice_set m.stores.items here.0 new) js) (set-twice G.journals here.0 a.events longer) kept) in
      (after_cell a.left cell, longer, goes-stores cell x ans a.gone.goes told b may, stored)

  -- and the task goes on with its answer
  pub called : (m' : Machine L) (mover' : Mover) (op : CellOp) (answer : Result (Option Value) Fault) (x : List ℕ) (old new : StoreView) (mark : Mark) → IsCall q.term here op (does q.vars here.0 q.term) → begins q.term ≡ Some x → next_of (does q.vars here.0 q.term) ≡ CellStep op → StoreIs U m here G a.left a.events old → OnlyStores m m' → m'.stores.items ≡ slice_set m.stores.items here.0 new → mark.task ≡ mover.who.task → mark.stamp ≡ length G.entries → mark.path ≡ x → CallMade old new mark op answer → StandsFor shape mover'.control.value (answered (answer_of (receives q.term) answer) q.term) → mover'.control.value.vars ≡ vars_after (answer_of (receives q.term) answer) mover.control.value.vars → mover'.batch ≡ mover.batch ++ x ∷ [] → mover'.who ≡ mover.who → mover'.waits ≡ mover.waits → AfterStep shape code U m' k i here q mover' G None
  called m' mover' op answer x old new mark c b e is only put task stamp path asked term vars batch who waits =
      let ans : Answer = answer_of (receives q.term) answer in
      let s = a.gone.seat_is in
      let w = call-told op answer x old new mark m'.stores.items c b e is put task stamp path asked in
      let free : is_held q.term ≡ false = not_held q.vars here.0 q.term c.free in
      let held : HeldInFront (answered ans q.term) × (is_held (answered ans q.term) ≡ false) = answer_waits ans q.term s.held in
      let r : Player = record { term = answered ans q.term; vars = vars_after ans q.vars; batch = begun q.term q.batch } in (
        r,
        acting-on a m' r mover' w.0 w.1 only who waits w.2
            (moved-seat r mover' s who waits term (vars ∙ ap (vars_after ans) s.work.1) free held.0 held.1 (answer_spine ans q.term (reverse (own_kinds (tree_in U G) i)) s.spine (begun_is q.term x b)))
            (batch ∙ (ap (λ (l : List (List ℕ)). l ++ x ∷ []) a.gone.batch ∙ sym (begun_one q.term q.batch x b))) w.3,
        c.sinks ans,
      )
