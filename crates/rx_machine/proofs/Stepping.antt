-- One step more of a task that makes its turn.
use Rattle.std.proofs.Common.{◌≡◌, ℕ, ◌+◌, ◌*◌, ◌≤◌, false, List, [], ◌∷◌, ◌++◌, reverse, length, Some, None, slice_set, refl, ap, ◌∙◌, sym, subst, arith}
use Rattle.rx_rules.proofs.Common.{PlaceId, TaskId, Block, work, Term, Vars, Answer, answered, vars_after, Does, Local, Releases, does, begins, Tree, inner, State, MayCell, after_cell, Tells, begun, journal_at, Given, Game, Player, RunsWithoutEntry, stays, local, stores, tree_in}
use Rattle.rx_rules.specs.declared.tasks.Task.{Task}
use Rattle.rx_rules.specs.declared.events.Cell.{Cell}
use Rattle.rx_rules.specs.declared.events.PlaceEvent.{PlaceEvent}
use Rattle.rx_rules.specs.declared.events.PlaceEvent.TheVariants.{Done as Did}
use Rattle.rx_rules.specs.declared.entries.Entry.{Entry}
use Rattle.rx_runs.specs.Steps.{steps, Sinks, TermSinks}
use Rattle.rx_runs.specs.Left.{FewLeft, GoingSinks}
use Rattle.rx_history.specs.Setups.{given}
use Rattle.rx_syntax.specs.Shape.{Shape}
use Rattle.rx_history.specs.declared.step.Next.TheVariants.{Local as LocalStep}
use Rattle.rx_history.specs.declared.step.Next.{Next}
use Rattle.rx_history.specs.Next.{next_of}
use Rattle.rx_control.specs.Stands.{StandsFor, AfterLocalStep}
use Rattle.rx_control.specs.declared.control.Control.{Control}
use Rattle.rx_plan.proofs.Told.{told_local}
use Rattle.rx_machine.specs.declared.machine.Machine.{Machine}
use Rattle.rx_finish.specs.declared.ledger.Caller.{Caller}
use Rattle.rx_machine.specs.declared.seat.Seat.{Seat}
use Rattle.rx_machine.specs.declared.seat.Mover.{Mover}
use Rattle.rx_tree_laws.specs.Held.{is_held, HeldInFront}
use Rattle.rx_tree_laws.specs.Spine.{Spine}
use Rattle.rx_machine.specs.Slots.{IsSeat, own_kinds, seat_of}
use Rattle.rx_store.specs.Kepts.{StoresAre}
use Rattle.rx_machine.proofs.SeatTaken.{row-same}
use Rattle.rx_machine.specs.Holds.{Shares, Acting}
use Rattle.rx_machine.specs.Inside.Requests.{OnlyStores, AfterStep}
use Rattle.rx_tree_laws.proofs.Holding.{AfterLocal, after-local}
use Rattle.rx_tree_laws.proofs.Granting.{not_held}
use Rattle.rx_tree_laws.proofs.Spines.{LeavesSpine, spine-local}

-- Steps at the end.

pub goes-local : {heap n : ℕ} {t : TaskId} {here : PlaceId} {p q : Player} {S Z : State} {j k : List PlaceEvent} {after : Term} {left : Vars} → RunsWithoutEntry heap n t here p S j q Z k → does q.vars here.0 q.term ≡ Local after left → RunsWithoutEntry heap n t here p S j (record { term = after; vars = left; batch = begun q.term q.batch }) Z k
goes-local stays e = local e stays
goes-local (local h g) e = local h (goes-local g e)
goes-local (stores cell x a told b may g) e = stores cell x a told b may (goes-local g e)

pub goes-stores : {heap n : ℕ} {t : TaskId} {here : PlaceId} {p q : Player} {S Z : State} {j k : List PlaceEvent} (cell : Cell) (x : List ℕ) (a : Answer) → RunsWithoutEntry heap n t here p S j q Z k → Tells (does q.vars here.0 q.term) here cell a → begins q.term ≡ Some x → MayCell heap Z cell → RunsWithoutEntry heap n t here p S j (record { term = answered a q.term; vars = vars_after a q.vars; batch = begun q.term q.batch }) (after_cell Z cell) (k ++ Did t n cell x ∷ [])
goes-stores cell x a stays told b may = stores cell x a told b may stays
goes-stores cell x a (local h g) told b may = local h (goes-stores cell x a g told b may)
goes-stores cell x a (stores c y d t e m g) told b may = stores c y d t e m (goes-stores cell x a g told b may)

-- The machine goes on with the game.

shares-on : {L : Type 0} {code : Block} {U : Given} (m m' : Machine L) {G : Game} → Shares code U m G → OnlyStores m m' → Shares code U m' G
shares-on m m' h o =
    record {
      on = h.on;
      comes = h.comes;
      setup = ap (λ l. given l.setup) o.chronicle ∙ h.setup;
      entries = ap (λ l. l.entries) o.chronicle ∙ h.entries;
      slots = ap (λ v. length v.items) o.seats ∙ h.slots;
      failed = o.failed ∙ h.failed;
    }

pub acting-on : {L : Type 0} {shape : Shape} {code : Block} {U : Given} {m : Machine L} {k i : ℕ} {here : PlaceId} {q : Player} {mover : Mover} {G : Game} (a : Acting shape code U m k i here q mover G) (m' : Machine L) (r : Player) (mover' : Mover) (Z : State) (events : List PlaceEvent) → OnlyStores m m' → mover'.who ≡ mover.who → mover'.waits ≡ mover.waits → RunsWithoutEntry U.heap (length G.entries) mover.who.task here a.began a.store (journal_at G.journals here.0) r Z events → IsSeat shape G.entries (tree_in U G) i r (seat_of mover') → mover'.batch ≡ r.batch → StoresAre U.heap 0 m'.stores.items (slice_set G.journals here.0 events) → Acting shape code U m' k i here r mover' G
acting-on {U = U} {m = m} {here = here} {mover = mover} {G = G} a m' r mover' Z events o who waits goes is batch stored =
    let items : m'.seats.items ≡ m.seats.items = ap (λ v. v.items) o.seats in
    record {
      but = record {
        shares = shares-on m m' a.but.shares o;
        empty = rw items a.but.empty;
        others = rw items a.but.others;
      };
      pick = record {
        stands = a.pick.stands;
        none_due = a.pick.none_due;
        picked = a.pick.picked ∙ ap (λ (x : Task). Some x) (sym (row-same (seat_of mover) (seat_of mover') who waits));
        number = ap (λ (w : Caller). w.task.0) who ∙ a.pick.number;
      };
      began = a.began;
      store = a.store;
      left = Z;
      events = events;
      gone = record {
        player = a.gone.player;
        store = a.gone.store;
        is_at = ap (λ (w : Caller). w.place) who ∙ a.gone.is_at;
        goes = subst (λ (w : Caller). RunsWithoutEntry U.heap (length G.entries) w.task here a.began a.store (journal_at G.journals here.0) r Z events) (sym who) goes;
        seat_is = is;
        batch = batch;
      };
      numbers = a.numbers;
      reached = a.reached;
      inside = rw items a.inside;
      place = a.place;
      stored = a.stored;
      stores = stored;
      players = a.players;
    }

-- the seat of a task that has come further, and has the same scopes
pub moved-seat : {shape : Shape} {es : List Entry} {T : Tree} {i : ℕ} {q : Player} {seat : Seat} (r : Player) (mover' : Mover) → IsSeat shape es T i q seat → mover'.who ≡ seat.who → mover'.waits ≡ seat.waits → StandsFor shape mover'.control.value r.term → mover'.control.value.vars ≡ r.vars → is_held q.term ≡ false → HeldInFront r.term → is_held r.term ≡ false → Spine r.term (reverse (own_kinds T i)) → IsSeat shape es T i r (seat_of mover')
moved-seat {T = T} {seat = seat} r mover' s who waits term vars free held still spine =
    let row = row-same seat (seat_of mover') who waits in
    record {
      row = s.row ∙ ap (λ (x : Task). Some x) (sym row);
      inner = ap (λ (x : Task). inner T x) row ∙ (s.inner ∙ sym (ap (λ (w : Caller). w.inner) who));
      work = (term, vars);
      waits = waits ∙ (s.waits ∙ (free ∙ sym still));
      held = held;
      spine = spine;
    }

-- What the control tells.

-- Local steps.

pub same : {L : Type 0} (m : Machine L) → OnlyStores m m
same m = record { chronicle = refl; seats = refl; ready = refl; failed = refl }

pub stepped-local : {L : Type 0} {shape : Shape} {code : Block} {U : Given} {m : Machine L} {k i : ℕ} {here : PlaceId} {q : Player} {mover : Mover} {G : Game} (a : Acting shape code U m k i here q mover G) (mover' : Mover) → TermSinks → next_of (does q.vars here.0 q.term) ≡ LocalStep → AfterLocalStep shape mover'.control.value (does q.vars here.0 q.term) → mover'.batch ≡ begun q.term mover.batch → mover'.who ≡ mover.who → mover'.waits ≡ mover.waits → AfterStep shape code U m k i here q mover' G None
stepped-local {shape = shape} {U = U} {m = m} {i = i} {here = here} {q = q} {G = G} a mover' law e leaves batch who waits =
    let s = a.gone.seat_is in
    let ks = reverse (own_kinds (tree_in U G) i) in
    let l = told_local (does q.vars here.0 q.term) e in
    let r : Player = record { term = l.0; vars = l.1; batch = begun q.term q.batch } in
    let left : StandsFor shape mover'.control.value l.0 × (mover'.control.value.vars ≡ l.1) = subst (λ (d : Does). AfterLocalStep shape mover'.control.value d) l.2 leaves in
    let less : steps l.0 + 1 ≤ steps q.term = subst (λ (d : Does). Sinks q.term d) l.2 (law q.vars here.0 q.term) in
    let after : AfterLocal (Local l.0 l.1) = subst (λ (d : Does). AfterLocal d) l.2 (after-local q.vars here.0 q.term s.held) in
    let spine : LeavesSpine ks (Local l.0 l.1) = subst (λ (d : Does). LeavesSpine ks d) l.2 (spine-local ks q.vars here.0 q.term s.spine) in
    let free : is_held q.term ≡ false = not_held q.vars here.0 q.term (λ f. (let c : Local l.0 l.1 ≡ Releases = sym l.2 ∙ f in cc)) in (
      r,
      acting-on a m r mover' a.left a.events (same m) who waits (goes-local a.gone.goes l.2)
          (moved-seat r mover' s who waits left.0 left.1 free after.0 after.1 spine)
          (batch ∙ ap (begun q.term) a.gone.batch) a.stores,
      less,
    )

-- what the control tells, said of the player
pub told-next : {L : Type 0} {shape : Shape} {code : Block} {U : Given} {m : Machine L} {k i : ℕ} {here : PlaceId} {q : Player} {mover : Mover} {G : Game} (a : Acting shape code U m k i here q mover G) (next : Next) → next ≡ next_of (does mover.control.value.vars here.0 q.term) → next_of (does q.vars here.0 q.term) ≡ next
told-next {here = here} {q = q} a next e =
    sym (e ∙ ap (λ (v : Vars). next_of (does v here.0 q.term)) a.gone.seat_is.work.1)

-- the same where the control is told by another name
pub told-by : {L : Type 0} {shape : Shape} {code : Block} {U : Given} {m : Machine L} {k i : ℕ} {here : PlaceId} {q : Player} {mover : Mover} {G : Game} (a : Acting shape code U m k i here q mover G) (next : Next) (w : Control) → w ≡ mover.control.value → ((t : Term) → StandsFor shape w t → next ≡ next_of (does w.vars here.0 t)) → next_of (does q.vars here.0 q.term) ≡ next
told-by {shape = shape} {here = here} {q = q} {mover = mover} a next w is told =
    let all : (t : Term) → StandsFor shape mover.control.value t → next ≡ next_of (does mover.control.value.vars here.0 t) = subst (λ (v : Control). (t : Term) → StandsFor shape v t → next ≡ next_of (does v.vars here.0 t)) is told in
    told-next a next (all q.term a.gone.seat_is.work.0)

pub stands-by : {L : Type 0} {shape : Shape} {code : Block} {U : Given} {m : Machine L} {k i : ℕ} {here : PlaceId} {q : Player} {mover : Mover} {G : Game} (a : Acting shape code U m k i here q mover G) (w : Control) → w ≡ mover.control.value → StandsFor shape w q.term
stands-by {shape = shape} {q = q} a w is = subst (λ (v : Control). StandsFor shape v q.term) (sym is) a.gone.seat_is.work.0

pub does-by : {L : Type 0} {shape : Shape} {code : Block} {U : Given} {m : Machine L} {k i : ℕ} {here : PlaceId} {q : Player} {mover : Mover} {G : Game} (a : Acting shape code U m k i here q mover G) (w : Control) → w ≡ mover.control.value → does w.vars here.0 q.term ≡ does q.vars here.0 q.term
does-by {here = here} {q = q} a w is = ap (λ (v : Control). does v.vars here.0 q.term) is ∙ ap (λ (v : Vars). does v here.0 q.term) a.gone.seat_is.work.1

-- the steps that are left
pub few-now : {L : Type 0} {shape : Shape} {code : Block} {U : Given} {m : Machine L} {k i : ℕ} {here : PlaceId} {q : Player} {mover : Mover} {G : Game} (a : Acting shape code U m k i here q mover G) → FewLeft → GoingSinks → work code ≤ 100000 → steps q.term + 0 ≤ 300000
few-now {code = code} {U = U} {i = i} {here = here} {q = q} {mover = mover} {G = G} a left sinks few =
    let first : steps a.began.term ≤ 3 * work code = left code U G a.but.shares.comes i a.began a.gone.player in
    let less : steps q.term ≤ steps a.began.term = sinks U.heap (length G.entries) mover.who.task here a.began q a.store a.left (journal_at G.journals here.0) a.events a.gone.goes in
    omega (arith, first, less, few)

pub same-twice : {L : Type 0} (m m' m'' : Machine L) → OnlyStores m m' → OnlyStores m' m'' → OnlyStores m m''
same-twice m m' m'' a b =
    record {
      chronicle = b.chronicle ∙ a.chronicle;
      seats = b.seats ∙ a.seats;
      ready = b.ready ∙ a.ready;
      failed = b.failed ∙ a.failed;
    }
