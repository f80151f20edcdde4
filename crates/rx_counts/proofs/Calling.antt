-- An `at` is opened: a scope with its callee.
use Rattle.std.proofs.Common.{◌≡◌, ℕ, ◌<◌, ◌≤◌, ◌^◌, ◌+◌, Bool, true, false, ◌||◌, ◌==◌, not, List, [], ◌∷◌, Some, None, is_none, is_some, length, slice_index_or, Ok, refl, sym, ap, ◌∙◌, subst, arith}
use Rattle.std.proofs.lemmas.Bool.{eq-eqb, ne_eqb}
use Rattle.std.proofs.lemmas.List.{length-replicate}
use Rattle.rx_rules.proofs.Widths.{limit-act}
use Rattle.rx_rules.proofs.Common.{has_bit, PlaceId, TaskId, ScopeId, Tree, is_task, death_of, place_number, home_for, born, change_first, waiting, made_act, acts}
use Rattle.rx_rules.specs.declared.tasks.Kind.TheVariants.{Call}
use Rattle.rx_rules.specs.declared.tasks.Where.{Where}
use Rattle.rx_rules.specs.declared.tasks.Task.{Task}
use Rattle.rx_rules.specs.declared.tasks.Scope.{Scope}
use Rattle.rx_rules.specs.declared.entries.Act.TheVariants.{At as Calls}
use Rattle.rx_tree_laws.specs.Blows.{death_blow, blow_at}
use Rattle.rx_tree_laws.specs.Chains.{Falls}
use Rattle.rx_tree_laws.specs.Sound.{Sound, Each, Inside}
use Rattle.rx_tree_laws.proofs.Reached.{sound}
use Rattle.rx_finish.specs.declared.ledger.Caller.{Caller}
use Rattle.rx_finish.specs.Callers.{MayAskTo, IsMoving}
use Rattle.rx_finish.specs.Calls.{CallReply}
use Rattle.rx_finish.proofs.Allowed.{Free, call_allowed}
use Rattle.rx_counts.specs.declared.record.Sums.{Sums}
use Rattle.rx_counts.specs.declared.record.Record.{Record}
use Rattle.rx_counts.specs.declared.ledger.CountLedger.{CountLedger}
use Rattle.rx_counts.specs.Keeping.{stands_home, keeper, finishes, is_number, kept_at}
use Rattle.rx_counts.specs.Stands.{table_size, slot, HasCell, MayJoin, SumsOf, StandsFor, Pushed, count_in, more, with_lost}
use Rattle.rx_counts.specs.Inside.Opening.{IsZero}
use Rattle.rx_counts.proofs.Asking.{unstruck_of, wide, room_kept, as_wide}
use Rattle.rx_counts.proofs.Masking.{masked_opened}
use Rattle.rx_counts.proofs.Joining.{join_here, join_lost, join_other, all_waits}
use Rattle.rx_counts.proofs.NewRecord.{all_opened, sums_fresh, sums_further, zero_count}
use Rattle.rx_counts.proofs.Slots.{inside_cells, slot_below}
use Rattle.rx_counts.proofs.Born.{IsNew, record_new, finish_up, home_known, place_lives, unders_low}
use Rattle.rx_counts.proofs.Spawning.{start, started_in, to_low, is_lost, struck_by, struck_none, struck_if}
use Rattle.rx_counts.specs.Inside.Totalling.{more_scopes, more_tasks}
use Rattle.rx_counts.proofs.Totalling.{are, totals_are, waits_same, one_scope, one_born}

-- a scope that keeps counts is its own keeper
self_kept : (keeps : Scope → Bool) (g : Scope) (gs : List Scope) → keeps g ≡ true → keeper keeps (g ∷ gs) (Some g.number) ≡ Some g.number.0
self_kept keeps g gs e = rw (eq-eqb g.number.0 g.number.0 refl, e)

-- new sums have a cell for each place of the run
pub zero_cell : (n : ℕ) (q : Sums) (w : Where) → IsZero n q → Inside n w → HasCell w q
zero_cell n q w z within =
    let len : length q.counts ≡ table_size n = ap length z.counts ∙ length-replicate {A = ℕ} (table_size n) 0 in
    subst (λ (m : ℕ). slot m w < length q.counts) (sym z.places) (subst (λ (m : ℕ). slot n w < m) (sym len) (slot_below n w (inside_cells n w within)))

-- a birth leaves the table as large as it was
same_places : (to : PlaceId) (w : Where) (q p : Sums) (b : Bool) → (b ≡ true → p ≡ with_lost p.lost q) → (b ≡ false → p ≡ more w q) → p.places ≡ q.places
same_places to w q p true lost joins = ap (λ (v : Sums). v.places) (lost refl)
same_places to w q p false lost joins = ap (λ (v : Sums). v.places) (joins refl)

-- and masks nothing
same_masked : (w : Where) (q p : Sums) (b : Bool) → (b ≡ true → p ≡ with_lost p.lost q) → (b ≡ false → p ≡ more w q) → p.masked ≡ q.masked
same_masked w q p true lost joins = ap (λ (v : Sums). v.masked) (lost refl)
same_masked w q p false lost joins = ap (λ (v : Sums). v.masked) (joins refl)

sums_callee : (T : Tree) (keeps : Scope → Bool) (gs : List Scope) (ts : List Task) (child : TaskId) (s : ScopeId) (from to : PlaceId) (q p : Sums) (b : Bool) → b ≡ is_some (death_of T to) → kept_at keeps gs s.0 (born T child s from to) ≡ true → HasCell (start from to) q → (b ≡ true → (p ≡ with_lost p.lost q) × ((i : ℕ) → i < 16 → has_bit p.lost.0 i ≡ (has_bit q.lost.0 i || (to.0 == i)))) → (b ≡ false → p ≡ more (start from to) q) → SumsOf keeps gs ts q s.0 → SumsOf keeps gs (born T child s from to ∷ ts) p s.0
sums_callee T keeps gs ts child s from to q p true e here cell lost joins h =
    let b = struck_by T child s from to (sym e) in
    join_lost keeps gs ts (born T child s from to) b.0 q p s.0 here b.1 (lost refl).0 (subst (λ (v : PlaceId). (i : ℕ) → i < 16 → has_bit p.lost.0 i ≡ (has_bit q.lost.0 i || (v.0 == i))) (sym b.2) (lost refl).1) h
sums_callee T keeps gs ts child s from to q p false e here cell lost joins h =
    subst (λ (v : Sums). SumsOf keeps gs (born T child s from to ∷ ts) v s.0) (sym (joins refl)) (join_here keeps gs ts (born T child s from to) q s.0 here (struck_none T child s from to (sym e)) cell h)

pub called_stands : {room : ℕ} (l m : CountLedger) (T : Tree) (who : Caller) (to : PlaceId) (s : ScopeId) (child : TaskId) (r : Record) (zero : Sums) (b : Bool) → StandsFor l room T → MayAskTo T who to → blow_at l.dead who.place ≡ None → (f : Free T who IsMoving) → s.0 ≡ l.next_scope → child.0 ≡ l.next_task → r.kind ≡ Call → r.home ≡ place_number who.place → r.parent ≡ Some who.inner → keeper finishes T.scopes (Some who.inner) ≡ Some r.finish.0 → IsZero l.width zero → b ≡ not (is_none (death_blow l.dead to)) → (b ≡ true → (r.sums ≡ with_lost r.sums.lost zero) × ((i : ℕ) → i < 16 → has_bit r.sums.lost.0 i ≡ (has_bit zero.lost.0 i || (to.0 == i)))) → (b ≡ false → r.sums ≡ more (start (place_number who.place) to) zero) → r.body ≡ [] → r.ends ≡ [] → m.places ≡ l.places → m.width ≡ l.width → m.dead ≡ l.dead → m.next_task ≡ l.next_task + 1 → m.next_scope ≡ l.next_scope + 1 → m.totals ≡ more_tasks b (start (place_number who.place) to) (more_scopes l.totals) → Pushed r l.scopes m.scopes → CallReply T who to (Ok (record { child = child; scope = s; lost = b })) (StandsFor m room)
called_stands l m T who to s child r zero b st may blow f next num kind home parent fin is_zero e lost joins body ends places width dead next_task next_scope totals p =
    let h : Sound T = sound st.reached in
    let keeps : Scope → Bool = stands_home T.dead in
    let from : PlaceId = place_number who.place in
    let y : Task = born T child s from to in
    let number : s.0 ≡ T.next_scope = next ∙ st.fit.next_scope in
    let g : Scope = record { number = s; kind = Call; opener = Some who.task; home = home_for T who.task; parent = Some who.inner; body = []; ends = [] } in
    let a = call_allowed T who to s child st.reached may (unstruck_of T who IsMoving f) number (num ∙ st.fit.next_task) in
    let home2 : home_for T who.task ≡ place_number who.place = home_known T who IsMoving f in
    let lives : keeps g ≡ true = subst (λ (q : PlaceId). is_none (slice_index_or T.dead q.0 None) ≡ true) (sym home2) (place_lives l T who st f blow) in
    let falls : Falls s.0 T.scopes = subst (λ n. Falls n T.scopes) (sym number) h.falls in
    let low : Each (λ x. x.under.0 < s.0) T.tasks = unders_low T s.0 h number in
    let new : IsNew r g T.scopes = record { kind = kind; home = home ∙ sym home2; parent = parent; finish = finish_up g T.scopes refl ∙ fin; body = body; ends = ends } in
    let dies : b ≡ is_some (death_of T to) = e ∙ is_lost l T to st.fit in
    let own : keeper keeps (g ∷ T.scopes) (Some s) ≡ Some s.0 = self_kept keeps g T.scopes lives in
    let here : kept_at keeps (g ∷ T.scopes) s.0 y ≡ true = ap (is_number s.0) own ∙ eq-eqb s.0 s.0 refl in
    let mine : SumsOf keeps (g ∷ T.scopes) (y ∷ T.tasks) r.sums s.0 = sums_callee T keeps (g ∷ T.scopes) T.tasks child s from to zero r.sums b dies here (zero_cell l.width zero (start from to) is_zero (started_in T who to h (wide l T st) may f)) lost joins (sums_fresh keeps g T.scopes T.tasks zero falls low lives l.width is_zero) in (
      record {
        allowed = a;
        made =
            record {
              reached = acts who.task (Calls from to s who.inner child []) st.reached a;
              fit =
                  record {
                    places = places ∙ st.fit.places;
                    dead = dead ∙ st.fit.dead;
                    next_task = (let q = st.fit.next_task in omega arith);
                    next_scope = (let q = st.fit.next_scope in omega arith);
                    totals =
                        totals
                        ∙ totals_are (more_tasks b (start from to) (more_scopes l.totals)) (made_act T who.task (Calls from to s who.inner child []))
                        (waits_same (more_tasks b (start from to) (more_scopes l.totals)) (length (g ∷ T.scopes)) (is_task who.task) true (y ∷ T.tasks)
                        (one_born (more_scopes l.totals) (length (g ∷ T.scopes)) T.tasks y (start from to) b refl (struck_if (death_of T to) to ∙ sym dies)
                        (one_scope l.totals (length T.scopes) T.tasks (are l.totals T st.fit.totals))));
                    numbers = (let q = st.fit.numbers in let v = p.len in omega arith);
                    scopes =
                        as_wide l.width m.width keeps (g ∷ T.scopes) (change_first (is_task who.task) waiting (y ∷ T.tasks)) m.scopes width
                        (all_waits _ keeps (g ∷ T.scopes) (y ∷ T.tasks) who.task true m.scopes
                        (all_opened keeps g T.scopes T.tasks (y ∷ T.tasks) l.scopes m.scopes r (st.fit.numbers ∙ sym number) falls
                        (λ q n below old. join_other keeps (g ∷ T.scopes) T.tasks y q n (ap (is_number n) own ∙ ne_eqb s.0 n (λ v. absurd (omega arith))) (sums_further keeps g T.scopes T.tasks q n falls low lives old)) p
                        (record_new keeps g T.scopes (y ∷ T.tasks) r new (same_places to (start from to) zero r.sums b (λ v. (lost v).0) joins ∙ is_zero.places) mine) st.fit.scopes));
                    masked = masked_opened keeps g T.scopes l.scopes m.scopes r (st.fit.numbers ∙ sym number) falls lives (same_masked (start from to) zero r.sums b (λ v. (lost v).0) joins ∙ is_zero.masked) p st.fit.masked;
                  };
              has_room = room_kept l m T (made_act T who.task (Calls from to s who.inner child [])) (limit-act T who.task (Calls from to s who.inner child [])) width refl st.has_room;
            };
      },
      dies,
    )

pub call_ok : {size : ℕ} (T : Tree) (who : Caller) (to : PlaceId) (q : Sums) → Sound T → T.places ≤ size → size ≤ 16 → MayAskTo T who to → (f : Free T who IsMoving) → IsZero size q → (to.0 < 16) × MayJoin (start (place_number who.place) to) q
call_ok {size = size} T who to q h le most may f z =
    let w : Where = start (place_number who.place) to in
    let none : count_in q w ≡ 0 = zero_count size q w z in
    let total : q.total ≡ 0 = z.total in
    (to_low T who to (omega (arith, le, most)) may, record { cell = zero_cell size q w z (started_in T who to h le may f); count = (subst (λ (m : ℕ). m + 1 < 2 ^ 32) (sym none) (omega arith)); total = omega arith })
