-- Journals, read event by event.
use Rattle.std.proofs.Common.{◌≡◌, ◌⊎◌, ℕ, zero, suc, ◌+◌, ◌<◌, ◌≤◌, ◌==◌, Bool, true, false, cond, List, [], ◌∷◌, length, take, Option, Some, None, slice_get, refl, ap, sym, subst, ◌∙◌, arith, inl, inr, ⊎_elim}
use Rattle.std.specs.List.{filter_map, cons_option}
use Rattle.std.proofs.lemmas.Bool.{eq-eqb, eqb-true}
use Rattle.rx_rules.proofs.Common.{TaskId, births, Cells, cell_of, birth_of, State, IsStoreRun, after_cell, Given, NotFalling, ClosesAt, AtHome, JournalOk, AllJournals, close_in, stamp_of}
use Rattle.rx_rules.specs.declared.entries.Entry.{Entry}
use Rattle.rx_rules.specs.declared.events.Cell.{Cell}
use Rattle.rx_rules.specs.declared.events.PlaceEvent.{PlaceEvent}
use Rattle.rx_rules.specs.declared.events.PlaceEvent.TheVariants.{Done, Close}
use Rattle.rx_verdict.specs.Verdicts.{events_before, Shut}
use Rattle.rx_verdict.proofs.Replays.{Climbs}

climbs_lower : (low high : ℕ) → low ≤ high → (cells : Cells) → Climbs high cells → Climbs low cells
climbs_lower low high le [] c = tt
climbs_lower low high le (x ∷ cells) c = (let first : high ≤ x.0 = c.0 in omega arith, c.1)

climbs_cons : (low stamp : ℕ) (cell : Cell) (x : List ℕ) (cells : Cells) → low ≤ stamp → Climbs stamp cells → (b : Bool) → Climbs low (cons_option (cond b (Some (stamp, cell, x)) None) cells)
climbs_cons low stamp cell x cells le c true = (le, c)
climbs_cons low stamp cell x cells le c false = climbs_lower low stamp le cells c

-- the stamps of a task's events do not fall where those of the journal do not
pub climbs_of : (t low : ℕ) (j : List PlaceEvent) → NotFalling low j → Climbs low (filter_map (cell_of t) j)
climbs_of t low [] h = tt
climbs_of t low (Done u stamp cell x ∷ j) h = climbs_cons low stamp cell x (filter_map (cell_of t) j) h.0 (climbs_of t stamp j h.1) (u.0 == t)
climbs_of t low (Close stamp ∷ j) h = climbs_lower low stamp h.0 (filter_map (cell_of t) j) (climbs_of t stamp j h.1)

-- Event number k of a task.

pub record Found (t : ℕ) (j : List PlaceEvent) (k : ℕ) : Type 0 where
  pub e : ℕ
  pub inside : e < length j
  pub task : TaskId
  pub stamp : ℕ
  pub cell : Cell
  pub path : List ℕ
  pub at : slice_get j e ≡ Some (Done task stamp cell path)
  pub mine : task.0 ≡ t
  pub count : events_before t j e ≡ k

found_other : (t : ℕ) (x : PlaceEvent) (j : List PlaceEvent) (k : ℕ) → cell_of t x ≡ None → Found t j k → Found t (x ∷ j) k
found_other t x j k is f =
    record {
      e = suc f.e;
      inside = (let l : f.e < length j = f.inside in omega arith);
      task = f.task;
      stamp = f.stamp;
      cell = f.cell;
      path = f.path;
      at = f.at;
      mine = f.mine;
      count = ap (λ (o : Option (ℕ × Cell × List ℕ)). length (cons_option o (filter_map (cell_of t) (take f.e j)))) is ∙ f.count;
    }

found_same : (t : ℕ) (x : PlaceEvent) (j : List PlaceEvent) (k : ℕ) (c : ℕ × Cell × List ℕ) → cell_of t x ≡ Some c → Found t j k → Found t (x ∷ j) (suc k)
found_same t x j k c is f =
    record {
      e = suc f.e;
      inside = (let l : f.e < length j = f.inside in omega arith);
      task = f.task;
      stamp = f.stamp;
      cell = f.cell;
      path = f.path;
      at = f.at;
      mine = f.mine;
      count = ap (λ (o : Option (ℕ × Cell × List ℕ)). length (cons_option o (filter_map (cell_of t) (take f.e j)))) is ∙ ap suc f.count;
    }

pub event_at : (t : ℕ) (j : List PlaceEvent) (k : ℕ) → k < length (filter_map (cell_of t) j) → Found t j k
event_at t [] k l = absurd (omega arith)
event_at t (Close stamp ∷ j) k l = found_other t (Close stamp) j k refl (event_at t j k l)
event_at t (Done u stamp cell x ∷ j) k l = by_task (u.0 == t) refl k l (λ i h. event_at t j i h) where
  by_task : (b : Bool) → (u.0 == t) ≡ b → (k : ℕ) → k < length (filter_map (cell_of t) (Done u stamp cell x ∷ j)) → ((i : ℕ) → i < length (filter_map (cell_of t) j) → Found t j i) → Found t (Done u stamp cell x ∷ j) k
  by_task false e k l f =
      let no : cell_of t (Done u stamp cell x) ≡ None = ap (λ (b : Bool). cond b (Some (stamp, cell, x)) None) e in
      let less : k < length (filter_map (cell_of t) j) = subst (λ (o : Option (ℕ × Cell × List ℕ)). k < length (cons_option o (filter_map (cell_of t) j))) no l in
      found_other t (Done u stamp cell x) j k no (f k less)
  by_task true e zero l f =
      record { e = 0; inside = omega arith; task = u; stamp = stamp; cell = cell; path = x; at = refl; mine = eqb-true u.0 t e; count = refl }
  by_task true e (suc k) l f =
      let is : cell_of t (Done u stamp cell x) ≡ Some (stamp, cell, x) = ap (λ (b : Bool). cond b (Some (stamp, cell, x)) None) e in
      let less : suc k < suc (length (filter_map (cell_of t) j)) = subst (λ (o : Option (ℕ × Cell × List ℕ)). suc k < length (cons_option o (filter_map (cell_of t) j))) is l in
      found_same t (Done u stamp cell x) j k (stamp, cell, x) is (f k (omega arith))

length_more : (o : Option (ℕ × Cell × List ℕ)) (m n : Cells) → length m < length n → length (cons_option o m) < length (cons_option o n)
length_more None m n l = l
length_more (Some c) m n l = omega arith

-- an event is one of its task's
pub count_below : (j : List PlaceEvent) (e : ℕ) (u : TaskId) (stamp : ℕ) (cell : Cell) (x : List ℕ) → slice_get j e ≡ Some (Done u stamp cell x) → events_before u.0 j e < length (filter_map (cell_of u.0) j)
count_below [] e u stamp cell x h = absurd (let f : ⊥ = cc in f)
count_below (y ∷ j) zero u stamp cell x h =
    let same : y ≡ Done u stamp cell x = cc in
    let is : cell_of u.0 y ≡ Some (stamp, cell, x) = ap (cell_of u.0) same ∙ ap (λ (b : Bool). cond b (Some (stamp, cell, x)) None) (eq-eqb u.0 u.0 refl) in
    subst (λ (o : Option (ℕ × Cell × List ℕ)). 0 < length (cons_option o (filter_map (cell_of u.0) j))) (sym is) (omega arith)
count_below (y ∷ j) (suc e) u stamp cell x h = length_more (cell_of u.0 y) (filter_map (cell_of u.0) (take e j)) (filter_map (cell_of u.0) j) (count_below j e u stamp cell x h)

-- Beginnings.

pub store_take : (w : ℕ) (S : State) (j : List PlaceEvent) (i : ℕ) → IsStoreRun w S j → IsStoreRun w S (take i j)
store_take w S j zero h = tt
store_take w S [] (suc i) h = tt
store_take w S (Done u stamp cell x ∷ j) (suc i) h = (h.0, store_take w (after_cell S cell) j i h.1)
store_take w S (Close stamp ∷ j) (suc i) h = ap (λ (k : List PlaceEvent). take i k) h ∙ none i where
  none : (i : ℕ) → take {A = PlaceEvent} i [] ≡ []
  none zero = refl
  none (suc i) = refl

pub rising_take : (low : ℕ) (j : List PlaceEvent) (i : ℕ) → NotFalling low j → NotFalling low (take i j)
rising_take low j zero h = tt
rising_take low [] (suc i) h = tt
rising_take low (x ∷ j) (suc i) h = (h.0, rising_take (stamp_of x) j i h.1)

-- Tasks of the journal.

pub home_at : (es : List Entry) (p : ℕ) (j : List PlaceEvent) (e : ℕ) (u : TaskId) (stamp : ℕ) (cell : Cell) (x : List ℕ) → AtHome es p j → slice_get j e ≡ Some (Done u stamp cell x) → (u.0 < 1 + births es) × ((birth_of es u.0).to.0 ≡ p)
home_at es p [] e u stamp cell x h at = absurd (let f : ⊥ = cc in f)
home_at es p (Done v s c y ∷ j) zero u stamp cell x h at =
    let same : v ≡ u = cc in subst (λ (z : TaskId). (z.0 < 1 + births es) × ((birth_of es z.0).to.0 ≡ p)) same (h.0, h.1)
home_at es p (Close s ∷ j) zero u stamp cell x h at = absurd (let f : ⊥ = cc in f)
home_at es p (Done v s c y ∷ j) (suc e) u stamp cell x h at = home_at es p j e u stamp cell x h.2 at
home_at es p (Close s ∷ j) (suc e) u stamp cell x h at = home_at es p j e u stamp cell x h at

pub at_home : (es : List Entry) (p : ℕ) (j : List PlaceEvent) → ((e : ℕ) (u : TaskId) (stamp : ℕ) (cell : Cell) (x : List ℕ) → slice_get j e ≡ Some (Done u stamp cell x) → (u.0 < 1 + births es) × ((birth_of es u.0).to.0 ≡ p)) → AtHome es p j
at_home es p [] h = tt
at_home es p (Done u stamp cell x ∷ j) h = let first = h 0 u stamp cell x refl in (first.0, first.1, at_home es p j (λ e v s c y at. h (suc e) v s c y at))
at_home es p (Close stamp ∷ j) h = at_home es p j (λ e v s c y at. h (suc e) v s c y at)

-- Closes.

pub one_close : (w : ℕ) (S : State) (j : List PlaceEvent) → IsStoreRun w S j → (filter_map close_in j ≡ []) ⊎ ((s : ℕ) × (e : ℕ) × (filter_map close_in j ≡ s ∷ []) × (slice_get j e ≡ Some (Close s)))
one_close w S [] h = inl refl
one_close w S (Done u stamp cell x ∷ j) h =
    ⊎_elim (λ (none : filter_map close_in j ≡ []). inl none)
    (λ (c : (s : ℕ) × (e : ℕ) × (filter_map close_in j ≡ s ∷ []) × (slice_get j e ≡ Some (Close s))). inr (c.0, suc c.1, c.2, c.3))
    (one_close w (after_cell S cell) j h.1)
one_close w S (Close stamp ∷ j) h = inr (stamp, 0, ap (λ (k : List PlaceEvent). stamp ∷ filter_map close_in k) h, refl)

pub closes_at : (d : Option ℕ) (w : ℕ) (S : State) (j : List PlaceEvent) → IsStoreRun w S j → ((e s : ℕ) → slice_get j e ≡ Some (Close s) → d ≡ Some s) → Shut d (filter_map close_in j) → ClosesAt d j
closes_at None w S j h each shut =
    ⊎_elim (λ (none : filter_map close_in j ≡ []). none)
    (λ (c : (s : ℕ) × (e : ℕ) × (filter_map close_in j ≡ s ∷ []) × (slice_get j e ≡ Some (Close s))). absurd (let e : None ≡ Some c.0 = each c.1 c.0 c.3 in let f : ⊥ = cc in f))
    (one_close w S j h)
closes_at (Some n) w S j h each shut =
    ⊎_elim (λ (none : filter_map close_in j ≡ []). absurd (subst (λ (v : List ℕ). Shut (Some n) v) none shut))
    (λ (c : (s : ℕ) × (e : ℕ) × (filter_map close_in j ≡ s ∷ []) × (slice_get j e ≡ Some (Close s))). let e : Some n ≡ Some c.0 = each c.1 c.0 c.3 in let same : n ≡ c.0 = cc in c.2 ∙ ap (λ (i : ℕ). i ∷ []) (sym same))
    (one_close w S j h)

pub shut_of : (d : Option ℕ) (j : List PlaceEvent) → ClosesAt d j → Shut d (filter_map close_in j)
shut_of None j h = tt
shut_of (Some n) j h = subst (λ (v : List ℕ). Shut (Some n) v) (sym h) tt

close_among : (j : List PlaceEvent) (e s : ℕ) → slice_get j e ≡ Some (Close s) → (i : ℕ) × (slice_get (filter_map close_in j) i ≡ Some s)
close_among [] e s h = absurd (let f : ⊥ = cc in f)
close_among (Done u stamp cell x ∷ j) zero s h = absurd (let f : ⊥ = cc in f)
close_among (Done u stamp cell x ∷ j) (suc e) s h = close_among j e s h
close_among (Close stamp ∷ j) zero s h = let same : stamp ≡ s = cc in (0, ap Some same)
close_among (Close stamp ∷ j) (suc e) s h = let r = close_among j e s h in (suc r.0, r.1)

pub close_is : (d : Option ℕ) (j : List PlaceEvent) (e s : ℕ) → ClosesAt d j → slice_get j e ≡ Some (Close s) → d ≡ Some s
close_is None j e s h at =
    let r = close_among j e s at in
    let none : slice_get {X = ℕ} [] r.0 ≡ Some s = subst (λ (v : List ℕ). slice_get v r.0 ≡ Some s) h r.1 in absurd (let f : ⊥ = cc in f)
close_is (Some n) j e s h at =
    let r = close_among j e s at in the_one r.0 (subst (λ (v : List ℕ). slice_get v r.0 ≡ Some s) h r.1) where
      the_one : (i : ℕ) → slice_get (n ∷ []) i ≡ Some s → Some n ≡ Some s
      the_one zero e = e
      the_one (suc i) e = absurd (let f : ⊥ = cc in f)

-- Lists of journals.

pub journals_at : (U : Given) (es : List Entry) (p : ℕ) (js : List (List PlaceEvent)) → AllJournals U es p js → (i : ℕ) (j : List PlaceEvent) → slice_get js i ≡ Some j → JournalOk U es (p + i) j
journals_at U es p [] h i j e = absurd (let f : ⊥ = cc in f)
journals_at U es p (k ∷ js) h zero j e =
    let same : k ≡ j = cc in
    let at : p + 0 ≡ p = omega arith in
    subst (λ (z : ℕ × List PlaceEvent). JournalOk U es z.0 z.1) {x = (p, k)} {y = (p + 0, j)} (λ n. (sym at n, same n)) h.0
journals_at U es p (k ∷ js) h (suc i) j e =
    let at : suc p + i ≡ p + suc i = omega arith in
    subst (λ (z : ℕ). JournalOk U es z j) at (journals_at U es (suc p) js h.1 i j e)

pub all_journals : (U : Given) (es : List Entry) (p : ℕ) (js : List (List PlaceEvent)) → ((i : ℕ) (j : List PlaceEvent) → slice_get js i ≡ Some j → JournalOk U es (p + i) j) → AllJournals U es p js
all_journals U es p [] h = tt
all_journals U es p (j ∷ js) h =
    let at : p + 0 ≡ p = omega arith in (
      subst (λ (z : ℕ). JournalOk U es z j) at (h 0 j refl),
      all_journals U es (suc p) js (λ i k e. let next : p + suc i ≡ suc p + i = omega arith in subst (λ (z : ℕ). JournalOk U es z k) next (h (suc i) k e)),
    )
