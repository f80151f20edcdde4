-- What is told when a turn is refused is told by the turn.
use Rattle.std.proofs.Common.{◌≡◌, ℕ, zero, suc, ◌%◌, Bool, true, List, [], ◌∷◌, ◌++◌, map, length, Option, Some, Result, slice_get, slice_set, refl, ap, ◌∙◌, sym, subst, inl, inr}
use Rattle.std.proofs.lemmas.List.{append-nil, append_assoc}
use mathlib.Core.List.{IsPrefix}
use Rattle.rx_rules.proofs.Common.{PlaceId, TaskId, Value, Fault, Block, Term, Vars, Answer, answered, vars_after, begins, Local, does, Tree, task_of, State, after_cell, Tells, begun, journal_at, AllowedAct, Given, Proper, NoRoot, Game, Player, Turn, planned as due, arrives, moves, root, MadeByTurns, RunsWithoutEntry, stays, local, stores, enabled, tree_in}
use Rattle.rx_rules.specs.declared.tasks.Task.{Task}
use Rattle.rx_rules.specs.declared.tasks.Where.TheVariants.{At, Travel}
use Rattle.rx_rules.specs.declared.entries.Entry.{Entry}
use Rattle.rx_rules.specs.declared.entries.Entry.TheVariants.{Step, Root, Death, Join}
use Rattle.rx_rules.specs.declared.entries.Act.TheVariants.{Arrive, End}
use Rattle.rx_rules.specs.declared.events.Cell.{Cell}
use Rattle.rx_rules.specs.declared.events.PlaceEvent.{PlaceEvent}
use Rattle.rx_rules.specs.declared.events.PlaceEvent.TheVariants.{Done as Did, Close}
use Rattle.rx_base.proofs.Elements.{not-empty}
use Rattle.rx_rules.specs.declared.tasks.Task.{Task}
use Rattle.rx_rules.specs.declared.tasks.Where.TheVariants.{At, Travel}
use Rattle.rx_rules.specs.declared.entries.Entry.{Entry}
use Rattle.rx_rules.specs.declared.entries.Entry.TheVariants.{Step, Root, Death, Join}
use Rattle.rx_rules.specs.declared.entries.Act.TheVariants.{Arrive, End}
use Rattle.rx_rules.specs.declared.events.Cell.{Cell}
use Rattle.rx_rules.specs.declared.events.PlaceEvent.{PlaceEvent}
use Rattle.rx_rules.specs.declared.events.PlaceEvent.TheVariants.{Done as Did, Close}
use Rattle.rx_rules.specs.Picked.{ends}
use Rattle.rx_rules.proofs.Kills.{due-not}
use Rattle.rx_runs.specs.Coming.{GamesGoOn}
use Rattle.rx_runs.proofs.Walks.{IsLast, fits_last, tells_not}
use Rattle.rx_runs.proofs.Telling.{tell_once}
use Rattle.rx_store.specs.Kept.{StoreView}
use Rattle.rx_store.specs.declared.calls.Mark.{Mark}
use Rattle.rx_syntax.specs.Shape.{Shape}
use Rattle.rx_history.specs.Logs.{Log}
use Rattle.rx_history.specs.declared.step.CellOp.{CellOp}
use Rattle.rx_history.specs.declared.step.Next.TheVariants.{Cell as CellStep}
use Rattle.rx_history.specs.Next.{next_of}
use Rattle.rx_machine.specs.declared.machine.Machine.{Machine}
use Rattle.rx_machine.specs.declared.seat.Seat.{Seat}
use Rattle.rx_machine.specs.declared.seat.Mover.{Mover}
use Rattle.rx_machine.specs.Slots.{row_of, seat_of}
use Rattle.rx_store.specs.Kepts.{StoresAre}
use Rattle.rx_machine.specs.Holds.{Seated, Acting, Landing}
use Rattle.rx_machine.specs.Refusals.{BeginEach, HasBegun, HasTold, HasMade, HasStopped, NothingMore}
use Rattle.rx_store.specs.Asked.{CallMade}
use Rattle.rx_store.proofs.StoreCalls.{IsCall}
use Rattle.rx_machine.proofs.Called.{StoreIs, call-told}
use Rattle.rx_machine.proofs.Asking.{id_of}
use Rattle.rx_machine.proofs.Live.{live_stands}
use Rattle.rx_store.proofs.Journals.{journals_are}

-- Walks.

-- a walk only adds events
goes-more : {heap n : ℕ} {t : TaskId} {here : PlaceId} {p q : Player} {S Z : State} {j k : List PlaceEvent} → RunsWithoutEntry heap n t here p S j q Z k → IsPrefix j k
goes-more {j = j} stays = ([], append-nil j)
goes-more (local e g) = goes-more g
goes-more {n = n} {t = t} {j = j} (stores cell x a told b may g) = let r = goes-more g in (Did t n cell x ∷ r.0, sym (append_assoc j (Did t n cell x ∷ []) r.0) ∙ r.1)

-- the events of a part of a walk begin those of the whole walk
goes-part : {heap n : ℕ} {t : TaskId} {here : PlaceId} {p q r : Player} {S Z W : State} {j k l : List PlaceEvent} → RunsWithoutEntry heap n t here p S j q Z k → RunsWithoutEntry heap n t here p S j r W l → IsLast (does r.vars here.0 r.term) → IsPrefix k l
goes-part stays h b = goes-more h
goes-part (local {after = u} {left = v} e g) stays b = absurd (subst IsLast e b)
goes-part {heap = heap} {n = n} {t = t} {here = here} {p = p} {r = r} {S = S} {W = W} {j = j} {l = l} (local {after = u} {left = v} e g) (local {after = x} {left = y} f h) b =
    let same : Local u v ≡ Local x y = sym e ∙ f in
    let term : u ≡ x = cc in
    let vars : v ≡ y = cc in
    goes-part g
    (subst (λ (w : Vars). RunsWithoutEntry heap n t here (record { term = u; vars = w; batch = begun p.term p.batch }) S j r W l) (sym vars)
    (subst (λ (w : Term). RunsWithoutEntry heap n t here (record { term = w; vars = y; batch = begun p.term p.batch }) S j r W l) (sym term) h)) b
goes-part {here = here} (local {after = u} {left = v} e g) (stores cell x w tells at may h) b = absurd (subst (λ d. Tells d here cell w) e tells)
goes-part {here = here} (stores cell x w tells at may g) stays b = absurd (tells_not _ here cell w tells b)
goes-part {here = here} (stores cell x w tells at may g) (local e h) b = absurd (subst (λ d. Tells d here cell w) e tells)
goes-part {heap = heap} {n = n} {t = t} {here = here} {p = p} {r = r} {S = S} {W = W} {j = j} {l = l} (stores cell x w tells at may g) (stores cell2 x2 w2 tells2 at2 may2 h) b =
    let both = tell_once heap S here (does p.vars here.0 p.term) cell cell2 w w2 tells tells2 may may2 in
    let path : x ≡ x2 = (let e : Some x ≡ Some x2 = sym at ∙ at2 in cc) in
    let one : RunsWithoutEntry heap n t here (record { term = answered w2 p.term; vars = vars_after w2 p.vars; batch = begun p.term p.batch }) (after_cell S cell) (j ++ Did t n cell x2 ∷ []) r W l =
    subst (λ (v : Cell). RunsWithoutEntry heap n t here (record { term = answered w2 p.term; vars = vars_after w2 p.vars; batch = begun p.term p.batch }) (after_cell S v) (j ++ Did t n v x2 ∷ []) r W l) (sym both.0) h in
    let two : RunsWithoutEntry heap n t here (record { term = answered w2 p.term; vars = vars_after w2 p.vars; batch = begun p.term p.batch }) (after_cell S cell) (j ++ Did t n cell x ∷ []) r W l =
    subst (λ (v : List ℕ). RunsWithoutEntry heap n t here (record { term = answered w2 p.term; vars = vars_after w2 p.vars; batch = begun p.term p.batch }) (after_cell S cell) (j ++ Did t n cell v ∷ []) r W l) (sym path) one in
    goes-part g
    (subst (λ (v : Answer). RunsWithoutEntry heap n t here (record { term = answered v p.term; vars = vars_after v p.vars; batch = begun p.term p.batch }) (after_cell S cell) (j ++ Did t n cell x ∷ []) r W l) (sym both.1) two) b

-- Journals.

begin-same : (js : List (List PlaceEvent)) → BeginEach js js
begin-same [] = tt
begin-same (j ∷ js) = (([], append-nil j), begin-same js)

begin-set : (js : List (List PlaceEvent)) (n : ℕ) (j : List PlaceEvent) → IsPrefix (journal_at js n) j → BeginEach js (slice_set js n j)
begin-set [] n j h = tt
begin-set (l ∷ js) zero j h = (h, begin-same js)
begin-set (l ∷ js) (suc n) j h = (([], append-nil l), begin-set js n j h)

begin-both : (js : List (List PlaceEvent)) (n : ℕ) (j k : List PlaceEvent) → IsPrefix j k → BeginEach (slice_set js n j) (slice_set js n k)
begin-both [] n j k h = tt
begin-both (l ∷ js) zero j k h = (h, begin-same js)
begin-both (l ∷ js) (suc n) j k h = (([], append-nil l), begin-both js n j k h)

-- Turns.

-- a turn adds an entry, and events to one journal at most
turn-tells : (U : Given) (k : ℕ) (used : Bool) (G G' : Game) → Turn U k G used G' → IsPrefix G.entries G'.entries × BeginEach G.journals G'.journals
turn-tells U k used G G' (due (Join p) is) = ((Join p ∷ [], refl), begin-same G.journals)
turn-tells U k used G G' (due (Step t act batch) is) = ((Step t act batch ∷ [], refl), begin-same G.journals)
turn-tells U k used G G' (due (Root lost masked thrown) is) = ((Root lost masked thrown ∷ [], refl), begin-same G.journals)
turn-tells U k used G G' (due (Death d) is) = ((Death d ∷ [], refl), begin-set G.journals d.0 (journal_at G.journals d.0 ++ Close (length G.entries) ∷ []) (Close (length G.entries) ∷ [], refl))
turn-tells U k used G G' (arrives x p (none_due, pick) may) = ((Step x.number (Arrive p) [] ∷ [], refl), begin-same G.journals)
turn-tells U k used G G' (moves x here p q S Z j act (none_due, pick) at player store goes fits may) = ((Step x.number act q.batch ∷ [], refl), begin-set G.journals here.0 j (goes-more goes))
turn-tells U k used G G' (ends x here p q S Z j f (none_due, pick) at player store goes done may) = ((Step x.number (End f) q.batch ∷ [], refl), begin-set G.journals here.0 j (goes-more goes))
turn-tells U k used G G' (root lost masked thrown none_due none may) = ((Root lost masked thrown ∷ [], refl), begin-same G.journals)

-- no arrival is made of a task at a place
not_away : (T : Tree) (x y : Task) (here p : PlaceId) → x ≡ y → task_of T x.number ≡ Some x → x.place ≡ At here → AllowedAct T y.number (Arrive p) → ⊥
not_away T x y here p same stands is_at may =
    let stands_y : task_of T y.number ≡ Some y = subst (λ (v : Task). task_of T v.number ≡ Some v) same stands in
    let is : may.task ≡ y = (let e : Some may.task ≡ Some y = sym may.stands ∙ stands_y in cc) in
    let e : Travel may.asks.0 p ≡ At here = sym may.asks.1 ∙ (ap (λ (v : Task). v.place) (is ∙ sym same) ∙ is_at) in cc

module _ (U : Given) (k : ℕ) (G : Game) (items : List StoreView) (h : HasTold U k G items) where
  -- the part that was told begins the walk of the turn
  begins-walk : (y : Task) (there : PlaceId) (p2 r : Player) (S2 W : State) (l : List PlaceEvent) → slice_get (enabled (tree_in U G)) (k % length (enabled (tree_in U G))) ≡ Some y → y.place ≡ At there → slice_get G.players y.number.0 ≡ Some p2 → slice_get G.stores there.0 ≡ Some S2 → RunsWithoutEntry U.heap (length G.entries) y.number there p2 S2 (journal_at G.journals there.0) r W l → IsLast (does r.vars there.0 r.term) → BeginEach (slice_set G.journals h.here.0 h.events) (slice_set G.journals there.0 l)
  begins-walk y there p2 r S2 W l pick2 at2 player2 store2 goes2 last2 =
      let n : ℕ = length G.entries in
      let x : Task = h.task in
      let here : PlaceId = h.here in
      let p : Player = h.began in
      let S : State = h.store in
      let task : x ≡ y = (let e : Some x ≡ Some y = sym h.picked ∙ pick2 in cc) in
      let place : here ≡ there = (let e : At here ≡ At there = sym h.is_at ∙ ap (λ (v : Task). v.place) task ∙ at2 in cc) in
      let same_p : p ≡ p2 = (let e : Some p ≡ Some p2 = sym h.player ∙ ap (λ (v : Task). slice_get G.players v.number.0) task ∙ player2 in cc) in
      let same_s : S ≡ S2 = (let e : Some S ≡ Some S2 = sym h.found ∙ ap (λ (v : PlaceId). slice_get G.stores v.0) place ∙ store2 in cc) in
      let a : RunsWithoutEntry U.heap n x.number there p2 S2 (journal_at G.journals there.0) r W l = subst (λ (v : Task). RunsWithoutEntry U.heap n v.number there p2 S2 (journal_at G.journals there.0) r W l) (sym task) goes2 in
      let b : RunsWithoutEntry U.heap n x.number here p2 S2 (journal_at G.journals here.0) r W l = subst (λ (v : PlaceId). RunsWithoutEntry U.heap n x.number v p2 S2 (journal_at G.journals v.0) r W l) (sym place) a in
      let c : RunsWithoutEntry U.heap n x.number here p S2 (journal_at G.journals here.0) r W l = subst (λ (v : Player). RunsWithoutEntry U.heap n x.number here v S2 (journal_at G.journals here.0) r W l) (sym same_p) b in
      let d : RunsWithoutEntry U.heap n x.number here p S (journal_at G.journals here.0) r W l = subst (λ (v : State). RunsWithoutEntry U.heap n x.number here p v (journal_at G.journals here.0) r W l) (sym same_s) c in
      let part : IsPrefix h.events l = goes-part h.goes d (subst (λ (v : PlaceId). IsLast (does r.vars v.0 r.term)) (sym place) last2) in
      subst (λ (v : PlaceId). BeginEach (slice_set G.journals here.0 h.events) (slice_set G.journals v.0 l)) place (begin-both G.journals here.0 h.events l part)

  -- so the journals begin those of each turn
  begins-turn : (used : Bool) (G' : Game) → Turn U k G used G' → BeginEach (slice_set G.journals h.here.0 h.events) G'.journals
  begins-turn used G' (due e is) = absurd (due-not (length G.entries) e G.plan is h.none_due)
  begins-turn used G' (arrives y p (none_due, pick) may) =
      let task : h.task ≡ y = (let e : Some h.task ≡ Some y = sym h.picked ∙ pick in cc) in absurd (not_away (tree_in U G) h.task y h.here p task h.stands h.is_at may)
  begins-turn used G' (moves y there p2 r S2 W l act (none_due, pick) at player store goes fits may) =
      begins-walk y there p2 r S2 W l pick at player store goes (fits_last there r.term (does r.vars there.0 r.term) act fits)
  begins-turn used G' (ends y there p2 r S2 W l f (none_due, pick) at player store goes done may) =
      begins-walk y there p2 r S2 W l pick at player store goes (subst IsLast (sym done) tt)
  begins-turn used G' (root lost masked thrown none_due none may) = absurd (not-empty (enabled (tree_in U G)) (k % length (enabled (tree_in U G))) h.task none h.picked)

-- What a refused turn leaves.

-- nothing was told
pub begun-same : (code : Block) (U : Given) (k : ℕ) (G : Game) (es : List Entry) (js : List (List PlaceEvent)) → GamesGoOn → Proper U → MadeByTurns code U G → NoRoot G.entries → es ≡ G.entries → js ≡ G.journals → HasBegun U k G es js
begun-same code U k G es js law proper comes unreleased entries journals =
    let on = law code U G proper comes unreleased k in
    let tells = turn-tells U k on.0 G on.1 on.2 in
    let so : HasBegun U k G G.entries G.journals = record {
      used = on.0;
      after = on.1;
      turn = on.2;
      entries_before = ([], append-nil G.entries);
      entries_after = tells.0;
      journals_before = begin-same G.journals;
      journals_after = tells.1;
    } in
    subst (λ (v : List Entry). HasBegun U k G v js) (sym entries) (subst (λ (v : List (List PlaceEvent)). HasBegun U k G G.entries v) (sym journals) so)

-- a part of the walk was told
pub begun-told : (code : Block) (U : Given) (k : ℕ) (G : Game) (es : List Entry) (items : List StoreView) → GamesGoOn → Proper U → MadeByTurns code U G → NoRoot G.entries → es ≡ G.entries → HasTold U k G items → HasBegun U k G es (map (λ s. s.events) items)
begun-told code U k G es items law proper comes unreleased entries h =
    let on = law code U G proper comes unreleased k in
    let tells = turn-tells U k on.0 G on.1 on.2 in
    let so : HasBegun U k G G.entries (slice_set G.journals h.here.0 h.events) = record {
      used = on.0;
      after = on.1;
      turn = on.2;
      entries_before = ([], append-nil G.entries);
      entries_after = tells.0;
      journals_before = begin-set G.journals h.here.0 h.events (goes-more h.goes);
      journals_after = begins-turn U k G items h on.0 on.1 on.2;
    } in
    subst (λ (v : List Entry). HasBegun U k G v (map (λ (s : StoreView). s.events) items)) (sym entries)
    (subst (λ (v : List (List PlaceEvent)). HasBegun U k G G.entries v) (sym (journals_are U.heap 0 items (slice_set G.journals h.here.0 h.events) h.stores)) so)

-- the entry of the turn was told
pub begun-made : {L : Type 0} (U : Given) (k : ℕ) (G : Game) (m : Machine L) → HasMade U k G m → HasBegun U k G m.chronicle.entries (map (λ s. s.events) m.stores.items)
begun-made U k G m made =
    let tells = turn-tells U k true G made.after made.turn in
    let js : map (λ (s : StoreView). s.events) m.stores.items ≡ made.after.journals = journals_are U.heap 0 m.stores.items made.after.journals made.stores in
    record {
      used = true;
      after = made.after;
      turn = made.turn;
      entries_before = subst (λ (v : List Entry). IsPrefix G.entries v) (sym made.entries) tells.0;
      entries_after = ([], append-nil m.chronicle.entries ∙ made.entries);
      journals_before = subst (λ (v : List (List PlaceEvent)). BeginEach G.journals v) (sym js) tells.1;
      journals_after = subst (λ (v : List (List PlaceEvent)). BeginEach v made.after.journals) (sym js) (begin-same made.after.journals);
    }

module _ {L : Type 0} {shape : Shape} {code : Block} {U : Given} {m : Machine L} {k i : ℕ} {here : PlaceId} {q : Player} {mover : Mover} {G : Game} (a : Acting shape code U m k i here q mover G) where
  -- what the task that the pick k moves has told
  walk-told : (r : Player) (items : List StoreView) (Z : State) (l : List PlaceEvent) → RunsWithoutEntry U.heap (length G.entries) mover.who.task here a.began a.store (journal_at G.journals here.0) r Z l → StoresAre U.heap 0 items (slice_set G.journals here.0 l) → HasTold U k G items
  walk-told r items Z l goes stored =
      record {
        task = row_of (seat_of mover);
        here = here;
        began = a.began;
        now = r;
        store = a.store;
        left = Z;
        events = l;
        none_due = a.pick.none_due;
        picked = a.pick.picked;
        stands = subst (λ (v : TaskId). task_of (tree_in U G) v ≡ Some (row_of (seat_of mover))) (sym (id_of mover.who.task i a.pick.number)) (live_stands (tree_in U G) i (row_of (seat_of mover)) a.gone.seat_is.row).0;
        is_at = a.gone.is_at;
        player = subst (λ (n : ℕ). slice_get G.players n ≡ Some a.began) (sym a.pick.number) a.gone.player;
        found = a.gone.store;
        goes = goes;
        stores = stored;
      }

  -- in the middle of a turn
  pub acting-told : (items : List StoreView) → items ≡ m.stores.items → HasTold U k G items
  acting-told items same =
      walk-told q items a.left a.events a.gone.goes (subst (λ (v : List StoreView). StoresAre U.heap 0 v (slice_set G.journals here.0 a.events)) (sym same) a.stores)

  -- where a store has answered
  pub called-told : (op : CellOp) (answer : Result (Option Value) Fault) (x : List ℕ) (old new : StoreView) (mark : Mark) (items : List StoreView) → IsCall q.term here op (does q.vars here.0 q.term) → begins q.term ≡ Some x → next_of (does q.vars here.0 q.term) ≡ CellStep op → StoreIs U m here G a.left a.events old → items ≡ slice_set m.stores.items here.0 new → mark.task ≡ mover.who.task → mark.stamp ≡ length G.entries → mark.path ≡ x → CallMade old new mark op answer → HasTold U k G items
  called-told op answer x old new mark items c b e is put task stamp path asked =
      let w = call-told a op answer x old new mark items c b e is put task stamp path asked in walk-told _ items w.0 w.1 w.2 w.3

  -- a turn that stops there has told that
  pub stopped-told : (m' : Machine L) → m'.chronicle ≡ m.chronicle → HasTold U k G m'.stores.items → HasStopped U k G m'
  stopped-told m' chronicle told = inl (ap (λ (c : Log). c.entries) chronicle ∙ a.but.shares.entries, inr told)

  pub stopped : (m' : Machine L) → m'.chronicle ≡ m.chronicle → m'.stores ≡ m.stores → HasStopped U k G m'
  stopped m' chronicle stored = stopped-told m' chronicle (acting-told m'.stores.items (ap (λ v. v.items) stored))

  -- and a request that was refused tells no more, or its entry
  pub stopped-more : (m' : Machine L) → NothingMore U k G m m' → HasStopped U k G m'
  stopped-more m' more =
      elim more [
        | inl same ↦ inl (same.0 ∙ a.but.shares.entries, inr (acting-told m'.stores.items (ap (λ v. v.items) same.1)))
        | inr made ↦ inr made
      ]

-- a refused arrival has told nothing
pub nothing-told : {L : Type 0} {shape : Shape} {code : Block} {U : Given} {m : Machine L} {k i : ℕ} {to : PlaceId} {seat : Seat} {G : Game} (l : Landing shape code U m k i to seat G) (m' : Machine L) → m' ≡ m → HasStopped U k G m'
nothing-told {L = L} {U = U} {k = k} {G = G} l m' same = subst (λ (x : Machine L). HasStopped U k G x) (sym same) (inl (l.but.shares.entries, inl l.stores))

-- A turn that was refused.

-- it has told nothing
pub refused-same : {L : Type 0} (shape : Shape) (code : Block) (U : Given) (m m' : Machine L) (k : ℕ) (G : Game) → GamesGoOn → Seated shape code U m G → NoRoot G.entries → m'.chronicle.entries ≡ m.chronicle.entries → m'.stores ≡ m.stores → HasBegun U k G m'.chronicle.entries (map (λ s. s.events) m'.stores.items)
refused-same shape code U m m' k G law h unreleased history stored =
    begun-same code U k G m'.chronicle.entries (map (λ (s : StoreView). s.events) m'.stores.items) law h.shares.on.proper h.shares.comes unreleased (history ∙ h.shares.entries)
    (ap (λ v. map (λ (s : StoreView). s.events) v.items) stored ∙ journals_are U.heap 0 m.stores.items G.journals h.stores)

-- it has told a part, or its entry
pub refused-stopped : {L : Type 0} (shape : Shape) (code : Block) (U : Given) (m m' : Machine L) (k : ℕ) (G : Game) → GamesGoOn → Seated shape code U m G → NoRoot G.entries → HasStopped U k G m' → HasBegun U k G m'.chronicle.entries (map (λ s. s.events) m'.stores.items)
refused-stopped shape code U m m' k G law h unreleased stop =
    elim stop [
      | inl half ↦ elim half.1 [
        | inl stored ↦ begun-same code U k G m'.chronicle.entries (map (λ (s : StoreView). s.events) m'.stores.items) law h.shares.on.proper h.shares.comes unreleased half.0 (journals_are U.heap 0 m'.stores.items G.journals stored)
        | inr told ↦ begun-told code U k G m'.chronicle.entries m'.stores.items law h.shares.on.proper h.shares.comes unreleased half.0 told
      ]
      | inr made ↦ begun-made U k G m' made
    ]
