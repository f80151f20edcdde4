-- A task joins the tree, or leaves it, and the sums of one record change.
use Rattle.std.proofs.Common.{◌≡◌, ℕ, ◌<◌, ◌≤◌, ◌+◌, ◌-◌, Bool, true, false, cond, ◌||◌, ◌&&◌, ◌==◌, not, List, [], ◌∷◌, Option, Some, None, IfSome, is_none, option_map, length, slice_index_or, slice_set, filter, count_by, refl, sym, ap, ◌∙◌, subst, arith, ltb, ⊎_elim}
use Rattle.std.specs.List.{find, list_any}
use Rattle.std.specs.Global.{Box}
use Rattle.std.proofs.lemmas.Bool.{eqb-true, eq-eqb, ne_eqb, true≢false, and_left, and_right, cases_eq}
use Rattle.std.proofs.lemmas.List.{get_or-set_same, get_or-set_other, length-set}
use Rattle.std.proofs.Math.Bool.{and-true}
use Rattle.rx_tree_laws.proofs.Waiting.{tasks_below}
use Rattle.rx_rules.proofs.Common.{TaskId, is_task, change_first, was_lost_at, has_bit, has_number}
use Rattle.rx_rules.specs.declared.tasks.Where.{Where}
use Rattle.rx_rules.specs.declared.tasks.Blow.{Blow}
use Rattle.rx_rules.specs.declared.tasks.Task.{Task}
use Rattle.rx_rules.specs.declared.tasks.Scope.{Scope}
use Rattle.rx_tree_laws.specs.Sound.{TasksFall}
use Rattle.rx_tree_laws.proofs.Changes.{each_more}
use Rattle.rx_counts.specs.declared.record.Sums.{Sums}
use Rattle.rx_counts.specs.declared.record.Record.{Record}
use Rattle.rx_counts.specs.Keeping.{keeper, is_number, kept_at, same_where}
use Rattle.rx_base.proofs.Elements.{find-passes}
use Rattle.rx_counts.specs.Stands.{table_size, is_inside, slot, HasCell, MayLeave, ShapeOf, SumsOf, RecordOf, Both, RecordsFit, record_at, count_in, more, less, masking, in_sums, with_lost, Changed, ChangedBy, Pairs, Loses}
use Rattle.rx_counts.proofs.Counting.{one, count_cons, count_change, count_filter, any_counted, sum_change}
use Rattle.rx_counts.proofs.Telling.{same_self}
use Rattle.rx_counts.proofs.Slots.{has_place, same_slot, slot_same, slot_below, cell_of}

-- One task more, and one less.

pub more_count : (r : Sums) (v w : Where) → length r.counts ≡ table_size r.places → HasCell v r → count_in (more v r) w ≡ count_in r w + one (same_where w v)
more_count r v w len cell =
    let n : ℕ = r.places in
    let in_v : is_inside n v ≡ true = has_place n v (subst (λ (m : ℕ). slot n v < m) len cell) in
    (elim (same_where w v) as (λ c. same_where w v ≡ c → count_in (more v r) w ≡ count_in r w + one c) [
      | true ↦ λ e.
          subst (λ (i : ℕ). slice_index_or (slice_set r.counts (slot n v) (slice_index_or r.counts (slot n v) 0 + 1)) i 0 ≡ slice_index_or r.counts i 0 + 1) (same_slot n v w e)
          (get_or-set_same r.counts (slot n v) (slice_index_or r.counts (slot n v) 0 + 1) 0 cell)
      | false ↦ λ e. get_or-set_other r.counts (slot n v) (slot n w) (count_in r v + 1) 0 (λ q. true≢false (sym (slot_same n v w in_v (sym q)) ∙ e)) ∙ omega arith
    ]) refl

pub less_count : (r : Sums) (v w : Where) → length r.counts ≡ table_size r.places → HasCell v r → 1 ≤ count_in r v → count_in (less v r) w + one (same_where w v) ≡ count_in r w
less_count r v w len cell pos =
    let n : ℕ = r.places in
    let in_v : is_inside n v ≡ true = has_place n v (subst (λ (m : ℕ). slot n v < m) len cell) in
    (elim (same_where w v) as (λ c. same_where w v ≡ c → count_in (less v r) w + one c ≡ count_in r w) [
      | true ↦ λ e.
          subst (λ (i : ℕ). slice_index_or (slice_set r.counts (slot n v) (slice_index_or r.counts (slot n v) 0 - 1)) i 0 + 1 ≡ slice_index_or r.counts i 0) (same_slot n v w e)
          (let g = get_or-set_same r.counts (slot n v) (slice_index_or r.counts (slot n v) 0 - 1) 0 cell in back _ _ g pos)
      | false ↦ λ e. let g = get_or-set_other r.counts (slot n v) (slot n w) (count_in r v - 1) 0 (λ q. true≢false (sym (slot_same n v w in_v (sym q)) ∙ e)) in ap (λ (m : ℕ). m + 0) g ∙ plus_none _
    ]) refl
  where
    back : (x y : ℕ) → x ≡ y - 1 → 1 ≤ y → x + 1 ≡ y
    back x y e le = omega arith

    plus_none : (x : ℕ) → x + 0 ≡ x
    plus_none x = omega arith

-- what counts above 0 has a cell
pub counted_cell : (q : Sums) (w : Where) → length q.counts ≡ table_size q.places → 1 ≤ count_in q w → HasCell w q
counted_cell q w len pos = subst (λ (m : ℕ). slot q.places w < m) (sym len) (slot_below q.places w (cell_of q.places q.counts w len (above _ pos)))
  where
    above : (x : ℕ) → 1 ≤ x → 0 < x
    above x h = omega arith

-- One record.

one_false : (b : Bool) → b ≡ false → one b ≡ 0
one_false b e = ap one e

kept_cell : (f w k : Bool) → f ≡ true → k ≡ true → one ((f && w) && k) ≡ one w
kept_cell true true true a b = refl
kept_cell true false true a b = refl
kept_cell false w k a b = absurd (true≢false (sym a))
kept_cell true w false a b = absurd (true≢false (sym b))

kept_one : (f k : Bool) → f ≡ true → k ≡ true → one (f && k) ≡ 1
kept_one true true a b = refl
kept_one false k a b = absurd (true≢false (sym a))
kept_one true false a b = absurd (true≢false (sym b))

lost_none : (p : ℕ) (x : Task) → x.struck ≡ None → was_lost_at p x ≡ false
lost_none p x e = rw (e, was_lost_at)

-- a task that is counted elsewhere joins
pub join_other : (keeps : Scope → Bool) (gs : List Scope) (ts : List Task) (y : Task) (q : Sums) (n : ℕ) → kept_at keeps gs n y ≡ false → SumsOf keeps gs ts q n → SumsOf keeps gs (y ∷ ts) q n
join_other keeps gs ts y q n out h =
    record {
      cells = h.cells;
      counts = λ w.
          let a = h.counts w in
          let b = count_cons (λ x. (is_none x.struck && same_where w x.place) && kept_at keeps gs n x) y ts in
          let c = one_false _ (and_right (is_none y.struck && same_where w y.place) (kept_at keeps gs n y) out) in
          omega arith;
      total =
          let a = h.total in
          let b = count_cons (λ x. is_none x.struck && kept_at keeps gs n x) y ts in
          let c = one_false _ (and_right (is_none y.struck) (kept_at keeps gs n y) out) in
          omega arith;
      orphans = h.orphans;
      lost = λ p low. h.lost p low ∙ sym (ap (λ b. b || list_any (λ x. was_lost_at p x && kept_at keeps gs n x) ts) (and_right (was_lost_at p y) (kept_at keeps gs n y) out));
    }

-- an unstruck task that is counted here joins
pub join_here : (keeps : Scope → Bool) (gs : List Scope) (ts : List Task) (y : Task) (q : Sums) (n : ℕ) → kept_at keeps gs n y ≡ true → y.struck ≡ None → HasCell y.place q → SumsOf keeps gs ts q n → SumsOf keeps gs (y ∷ ts) (more y.place q) n
join_here keeps gs ts y q n here free cell h =
    record {
      cells = length-set q.counts (slot q.places y.place) (count_in q y.place + 1) ∙ h.cells;
      counts = λ w.
          let a = h.counts w in
          let b = count_cons (λ x. (is_none x.struck && same_where w x.place) && kept_at keeps gs n x) y ts in
          let c = kept_cell (is_none y.struck) (same_where w y.place) (kept_at keeps gs n y) (ap is_none free) here in
          let d = more_count q y.place w h.cells cell in
          omega arith;
      total =
          let a = h.total in
          let b = count_cons (λ x. is_none x.struck && kept_at keeps gs n x) y ts in
          let c = kept_one (is_none y.struck) (kept_at keeps gs n y) (ap is_none free) here in
          omega arith;
      orphans = h.orphans;
      lost = λ p low. h.lost p low ∙ sym (ap (λ b. b || list_any (λ x. was_lost_at p x && kept_at keeps gs n x) ts) (and_left (was_lost_at p y) (kept_at keeps gs n y) (lost_none p y free)));
    }

one_struck : (o : Option Blow) (b : Blow) (w k : Bool) → o ≡ Some b → (is_none o && w) && k ≡ false
one_struck o b w k e = rw e refl

two_struck : (o : Option Blow) (b : Blow) (k : Bool) → o ≡ Some b → is_none o && k ≡ false
two_struck o b k e = rw e refl

lost_first : (q : ℕ) (o : Option Blow) (b : Blow) (k l m : Bool) → o ≡ Some b → k ≡ true → m ≡ (l || (b.place.0 == q)) → m ≡ (((elim o as (λ _. Bool) [ Some c ↦ c.place.0 == q | None ↦ false ]) && k) || l)
lost_first q o b k l m e f h = h ∙ or_swap l (b.place.0 == q) ∙ rw (e, f) (ap (λ v. v || l) (sym (and-true (b.place.0 == q))))
  where
    or_swap : (a c : Bool) → (a || c) ≡ (c || a)
    or_swap true true = refl
    or_swap true false = refl
    or_swap false true = refl
    or_swap false false = refl

-- a struck task that is counted here joins
pub join_lost : (keeps : Scope → Bool) (gs : List Scope) (ts : List Task) (y : Task) (b : Blow) (q p : Sums) (n : ℕ) → kept_at keeps gs n y ≡ true → y.struck ≡ Some b → p ≡ with_lost p.lost q → ((i : ℕ) → i < 16 → has_bit p.lost.0 i ≡ (has_bit q.lost.0 i || (b.place.0 == i))) → SumsOf keeps gs ts q n → SumsOf keeps gs (y ∷ ts) p n
join_lost keeps gs ts y b q p n here struck same bits h =
    let counts : p.counts ≡ q.counts = ap (λ (v : Sums). v.counts) same in
    let places : p.places ≡ q.places = ap (λ (v : Sums). v.places) same in
    let total : p.total ≡ q.total = ap (λ (v : Sums). v.total) same in
    let orphans : p.orphans ≡ q.orphans = ap (λ (v : Sums). v.orphans) same in
    record {
      cells = ap length counts ∙ h.cells ∙ ap table_size (sym places);
      counts = λ w.
          let a = h.counts w in
          let c = count_cons (λ x. (is_none x.struck && same_where w x.place) && kept_at keeps gs n x) y ts in
          let d = one_false _ (one_struck y.struck b (same_where w y.place) (kept_at keeps gs n y) struck) in
          let e : count_in p w ≡ count_in q w = ap (λ xs. slice_index_or xs (slot p.places w) 0) counts ∙ ap (λ (m : ℕ). slice_index_or q.counts (slot m w) 0) places in
          omega arith;
      total =
          let a = h.total in
          let c = count_cons (λ x. is_none x.struck && kept_at keeps gs n x) y ts in
          let d = one_false _ (two_struck y.struck b (kept_at keeps gs n y) struck) in
          omega arith;
      orphans = orphans ∙ h.orphans;
      lost = λ i low. lost_first i y.struck b (kept_at keeps gs n y) (list_any (λ x. was_lost_at i x && kept_at keeps gs n x) ts) (has_bit p.lost.0 i) struck here (bits i low ∙ ap (λ c. c || (b.place.0 == i)) (h.lost i low));
    }

-- whether a task waits is not counted
pub sums_waits : (keeps : Scope → Bool) (gs : List Scope) (ts : List Task) (t : TaskId) (b : Bool) (q : Sums) (n : ℕ) → SumsOf keeps gs ts q n → SumsOf keeps gs (change_first (is_task t) (λ x. record x { waits = b }) ts) q n
sums_waits keeps gs ts t b q n h =
    record {
      cells = h.cells;
      counts = λ w. h.counts w ∙ sym (sum_change (λ x. cond ((is_none x.struck && same_where w x.place) && kept_at keeps gs n x) 1 0) (is_task t) (λ x. record x { waits = b }) ts (λ x. refl));
      total = h.total ∙ sym (sum_change (λ x. cond (is_none x.struck && kept_at keeps gs n x) 1 0) (is_task t) (λ x. record x { waits = b }) ts (λ x. refl));
      orphans = h.orphans;
      lost = λ p low. h.lost p low ∙ any_counted (λ x. was_lost_at p x && kept_at keeps gs n x) ts ∙ ap (ltb 0) (sym (sum_change (λ x. cond (was_lost_at p x && kept_at keeps gs n x) 1 0) (is_task t) (λ x. record x { waits = b }) ts (λ x. refl))) ∙ sym (any_counted (λ x. was_lost_at p x && kept_at keeps gs n x) (change_first (is_task t) (λ x. record x { waits = b }) ts));
    }

-- and the same backwards
pub leave_other : (keeps : Scope → Bool) (gs : List Scope) (ts : List Task) (y : Task) (q : Sums) (n : ℕ) → kept_at keeps gs n y ≡ false → SumsOf keeps gs (y ∷ ts) q n → SumsOf keeps gs ts q n
leave_other keeps gs ts y q n out h =
    record {
      cells = h.cells;
      counts = λ w.
          let a = h.counts w in
          let b = count_cons (λ x. (is_none x.struck && same_where w x.place) && kept_at keeps gs n x) y ts in
          let c = one_false _ (and_right (is_none y.struck && same_where w y.place) (kept_at keeps gs n y) out) in
          omega arith;
      total =
          let a = h.total in
          let b = count_cons (λ x. is_none x.struck && kept_at keeps gs n x) y ts in
          let c = one_false _ (and_right (is_none y.struck) (kept_at keeps gs n y) out) in
          omega arith;
      orphans = h.orphans;
      lost = λ p low. h.lost p low ∙ ap (λ b. b || list_any (λ x. was_lost_at p x && kept_at keeps gs n x) ts) (and_right (was_lost_at p y) (kept_at keeps gs n y) out);
    }

-- who is counted here, is in the count
pub counted : (keeps : Scope → Bool) (gs : List Scope) (ts : List Task) (y : Task) (q : Sums) (n : ℕ) → kept_at keeps gs n y ≡ true → y.struck ≡ None → SumsOf keeps gs (y ∷ ts) q n → MayLeave y.place q
counted keeps gs ts y q n here free h =
    let a = h.counts y.place in
    let b = count_cons (λ x. (is_none x.struck && same_where y.place x.place) && kept_at keeps gs n x) y ts in
    let c = kept_cell (is_none y.struck) (same_where y.place y.place) (kept_at keeps gs n y) (ap is_none free) here in
    let d = ap one (same_self y.place) in
    let e = h.total in
    let f = count_cons (λ x. is_none x.struck && kept_at keeps gs n x) y ts in
    let g = kept_one (is_none y.struck) (kept_at keeps gs n y) (ap is_none free) here in
    let one_more : 1 ≤ count_in q y.place = omega arith in
    record { cell = counted_cell q y.place h.cells one_more; count = one_more; total = omega arith }

pub leave_here : (keeps : Scope → Bool) (gs : List Scope) (ts : List Task) (y : Task) (q : Sums) (n : ℕ) → kept_at keeps gs n y ≡ true → y.struck ≡ None → SumsOf keeps gs (y ∷ ts) q n → SumsOf keeps gs ts (less y.place q) n
leave_here keeps gs ts y q n here free h =
    let may : MayLeave y.place q = counted keeps gs ts y q n here free h in
    record {
      cells = length-set q.counts (slot q.places y.place) (count_in q y.place - 1) ∙ h.cells;
      counts = λ w.
          let a = h.counts w in
          let b = count_cons (λ x. (is_none x.struck && same_where w x.place) && kept_at keeps gs n x) y ts in
          let c = kept_cell (is_none y.struck) (same_where w y.place) (kept_at keeps gs n y) (ap is_none free) here in
          let d = less_count q y.place w h.cells may.cell may.count in
          omega arith;
      total =
          let a = h.total in
          let b = count_cons (λ x. is_none x.struck && kept_at keeps gs n x) y ts in
          let c = kept_one (is_none y.struck) (kept_at keeps gs n y) (ap is_none free) here in
          omega arith;
      orphans = h.orphans;
      lost = λ p low. h.lost p low ∙ ap (λ b. b || list_any (λ x. was_lost_at p x && kept_at keeps gs n x) ts) (and_left (was_lost_at p y) (kept_at keeps gs n y) (lost_none p y free));
    }

-- sums count and ask of no more than how many tasks pass a test
pub sums_same : (keeps : Scope → Bool) (gs : List Scope) (ts us : List Task) (q : Sums) (n : ℕ) → ((p : Task → Bool) → count_by p ts ≡ count_by p us) → SumsOf keeps gs ts q n → SumsOf keeps gs us q n
sums_same keeps gs ts us q n same h =
    record {
      cells = h.cells;
      counts = λ w. h.counts w ∙ same _;
      total = h.total ∙ same _;
      orphans = h.orphans;
      lost = λ p low. h.lost p low ∙ any_counted _ ts ∙ ap (ltb 0) (same _) ∙ sym (any_counted _ us);
    }

-- what is masked is not counted
pub sums_masking : (keeps : Scope → Bool) (gs : List Scope) (ts : List Task) (q : Sums) (n many : ℕ) → SumsOf keeps gs ts q n → SumsOf keeps gs ts (masking many q) n
sums_masking keeps gs ts q n many h = record { cells = h.cells; counts = h.counts; total = h.total; orphans = h.orphans; lost = h.lost }

-- All records.

pub both_map : (P Q : Record → Scope → Type 0) (f : Record → Record) (a : Option Record) (b : Option Scope) → ((r : Record) (g : Scope) → a ≡ Some r → b ≡ Some g → P r g → Q (f r) g) → Both P a b → Both Q (option_map f a) b
both_map P Q f (Some r) (Some g) k h = k r g refl refl h
both_map P Q f (Some r) None k h = absurd h
both_map P Q f None (Some g) k h = absurd h
both_map P Q f None None k h = tt

pub both_more : (P Q : Record → Scope → Type 0) (a : Option Record) (b : Option Scope) → ((r : Record) (g : Scope) → b ≡ Some g → P r g → Q r g) → Both P a b → Both Q a b
both_more P Q (Some r) (Some g) k h = k r g refl h
both_more P Q (Some r) None k h = absurd h
both_more P Q None (Some g) k h = absurd h
both_more P Q None None k h = tt

pub number_is : (n : ℕ) (gs : List Scope) (g : Scope) → find (has_number n) gs ≡ Some g → g.number.0 ≡ n
number_is n gs g e = eqb-true g.number.0 n (find-passes (has_number n) gs g e)

-- the record of k changes by f, and the others stay
pub all_change : {size : ℕ} (keeps : Scope → Bool) (gs : List Scope) (ts us : List Task) (f : Record → Record) (k : ℕ) (rs qs : List (Option (Box Record))) → ((r : Record) (g : Scope) → record_at rs k ≡ Some r → g.number.0 ≡ k → RecordOf size keeps gs ts r g → RecordOf size keeps gs us (f r) g) → ((r : Record) (g : Scope) → (g.number.0 ≡ k → ⊥) → RecordOf size keeps gs ts r g → RecordOf size keeps gs us r g) → Changed f k rs qs → RecordsFit size keeps gs ts rs → RecordsFit size keeps gs us qs
all_change {size = size} keeps gs ts us f k rs qs here other c h n =
    ⊎_elim
    (λ (e : n ≡ k).
    subst (λ o. Both (RecordOf size keeps gs us) o (find (has_number n) gs)) (sym (ap (record_at qs) e ∙ c.here ∙ ap (λ m. option_map f (record_at rs m)) (sym e)))
    (both_map (RecordOf size keeps gs ts) (RecordOf size keeps gs us) f (record_at rs n) (find (has_number n) gs) (λ r g kept found. here r g (ap (record_at rs) (sym e) ∙ kept) (number_is n gs g found ∙ e)) (h n)))
    (λ (e : n ≡ k → ⊥).
    subst (λ o. Both (RecordOf size keeps gs us) o (find (has_number n) gs)) (sym (c.others n e))
    (both_more (RecordOf size keeps gs ts) (RecordOf size keeps gs us) (record_at rs n) (find (has_number n) gs) (λ r g found. other r g (λ q. e (sym (number_is n gs g found) ∙ q))) (h n)))
    (cases_eq n k)

pub both_pairs : (P Q : Record → Scope → Type 0) (R : Record → Record → Type 0) (a c : Option Record) (b : Option Scope) → ((r q : Record) (g : Scope) → b ≡ Some g → R r q → P r g → Q q g) → Pairs R a c → Both P a b → Both Q c b
both_pairs P Q R (Some r) (Some q) (Some g) k s h = k r q g refl s h
both_pairs P Q R (Some r) (Some q) None k s h = absurd h
both_pairs P Q R (Some r) None b k s h = absurd s
both_pairs P Q R None (Some q) b k s h = absurd s
both_pairs P Q R None None (Some g) k s h = absurd h
both_pairs P Q R None None None k s h = tt

-- the record of k changes as R says, and the others stay
pub all_by : {size : ℕ} (keeps fresh : Scope → Bool) (gs : List Scope) (ts us : List Task) (R : Record → Record → Type 0) (k : ℕ) (rs qs : List (Option (Box Record))) → ((r q : Record) (g : Scope) → find (has_number k) gs ≡ Some g → R r q → RecordOf size keeps gs ts r g → RecordOf size fresh gs us q g) → ((r : Record) (n : ℕ) (g : Scope) → find (has_number n) gs ≡ Some g → (n ≡ k → ⊥) → RecordOf size keeps gs ts r g → RecordOf size fresh gs us r g) → ChangedBy R k rs qs → RecordsFit size keeps gs ts rs → RecordsFit size fresh gs us qs
all_by {size = size} keeps fresh gs ts us R k rs qs here other c h n =
    ⊎_elim
    (λ (e : n ≡ k).
    subst (λ (m : ℕ). Both (RecordOf size fresh gs us) (record_at qs m) (find (has_number m) gs)) (sym e)
    (both_pairs (RecordOf size keeps gs ts) (RecordOf size fresh gs us) R (record_at rs k) (record_at qs k) (find (has_number k) gs) here c.here (h k)))
    (λ (e : n ≡ k → ⊥).
    subst (λ o. Both (RecordOf size fresh gs us) o (find (has_number n) gs)) (sym (c.others n e))
    (both_more (RecordOf size keeps gs ts) (RecordOf size fresh gs us) (record_at rs n) (find (has_number n) gs) (λ r g found. other r n g found e) (h n)))
    (cases_eq n k)

pub all_waits : (size : ℕ) (keeps : Scope → Bool) (gs : List Scope) (ts : List Task) (t : TaskId) (b : Bool) (rs : List (Option (Box Record))) → RecordsFit size keeps gs ts rs → RecordsFit size keeps gs (change_first (is_task t) (λ x. record x { waits = b }) ts) rs
all_waits size keeps gs ts t b rs h n =
    both_more (RecordOf size keeps gs ts) (RecordOf size keeps gs (change_first (is_task t) (λ x. record x { waits = b }) ts)) (record_at rs n) (find (has_number n) gs) (λ r g found a. record { shape = a.shape; sums = sums_waits keeps gs ts t b r.sums g.number.0 a.sums; faults = a.faults; places = a.places }) (h n)

pub all_lost : (size : ℕ) (keeps : Scope → Bool) (gs : List Scope) (ts : List Task) (y : Task) (b : Blow) (k : ℕ) (rs qs : List (Option (Box Record))) → keeper keeps gs (Some y.under) ≡ Some k → y.struck ≡ Some b → ChangedBy (Loses b.place) k rs qs → RecordsFit size keeps gs ts rs → RecordsFit size keeps gs (y ∷ ts) qs
all_lost size keeps gs ts y b k rs qs at struck c h =
    all_by keeps keeps gs ts (y ∷ ts) (Loses b.place) k rs qs
    (λ r q g found l a.
    let num : g.number.0 ≡ k = number_is k gs g found in
    let is : q ≡ in_sums (with_lost q.sums.lost) r = l.0 in
    record {
      shape = subst (λ (v : Record). ShapeOf gs v g) (sym is) (record { kind = a.shape.kind; home = a.shape.home; parent = a.shape.parent; finish = a.shape.finish });
      sums = join_lost keeps gs ts y b r.sums q.sums g.number.0 (ap (is_number g.number.0) at ∙ eq-eqb k g.number.0 (sym num)) struck (ap (λ (v : Record). v.sums) is) l.1 a.sums;
      faults = λ e. (ap (λ (v : Record). v.body) is ∙ (a.faults e).0, ap (λ (v : Record). v.ends) is ∙ (a.faults e).1);
      places = λ e. ap (λ (v : Record). v.sums.places) is ∙ a.places e;
    })
    (λ r n g found e a. record { shape = a.shape; sums = join_other keeps gs ts y r.sums g.number.0 (ap (is_number g.number.0) at ∙ ne_eqb k g.number.0 (λ v. e (sym (number_is n gs g found) ∙ sym v))) a.sums; faults = a.faults; places = a.places })
    c h

-- the sums of one record change
pub all_sums : (size : ℕ) (keeps : Scope → Bool) (gs : List Scope) (ts us : List Task) (f : Sums → Sums) (k : ℕ) (rs qs : List (Option (Box Record))) → ((q : Sums) → (f q).places ≡ q.places) → ((r : Record) → record_at rs k ≡ Some r → SumsOf keeps gs ts r.sums k → SumsOf keeps gs us (f r.sums) k) → ((q : Sums) (n : ℕ) → (n ≡ k → ⊥) → SumsOf keeps gs ts q n → SumsOf keeps gs us q n) → Changed (in_sums f) k rs qs → RecordsFit size keeps gs ts rs → RecordsFit size keeps gs us qs
all_sums size keeps gs ts us f k rs qs same here other c h =
    all_change keeps gs ts us (in_sums f) k rs qs
    (λ r g kept e a. record { shape = record { kind = a.shape.kind; home = a.shape.home; parent = a.shape.parent; finish = a.shape.finish }; sums = subst (SumsOf keeps gs us (f r.sums)) (sym e) (here r kept (subst (SumsOf keeps gs ts r.sums) e a.sums)); faults = a.faults; places = λ v. same r.sums ∙ a.places v })
    (λ r g e a. record { shape = a.shape; sums = other r.sums g.number.0 e a.sums; faults = a.faults; places = a.places })
    c h

pub all_masking : (size : ℕ) (keeps : Scope → Bool) (gs : List Scope) (ts : List Task) (many k : ℕ) (rs qs : List (Option (Box Record))) → Changed (in_sums (masking many)) k rs qs → RecordsFit size keeps gs ts rs → RecordsFit size keeps gs ts qs
all_masking size keeps gs ts many k rs qs c h = all_sums size keeps gs ts ts (masking many) k rs qs (λ q. refl) (λ r kept a. sums_masking keeps gs ts r.sums k many a) (λ q n e a. a) c h

pub all_join : (size : ℕ) (keeps : Scope → Bool) (gs : List Scope) (ts : List Task) (y : Task) (k : ℕ) (rs qs : List (Option (Box Record))) → keeper keeps gs (Some y.under) ≡ Some k → y.struck ≡ None → IfSome (record_at rs k) (λ r. HasCell y.place r.sums) → Changed (in_sums (more y.place)) k rs qs → RecordsFit size keeps gs ts rs → RecordsFit size keeps gs (y ∷ ts) qs
all_join size keeps gs ts y k rs qs at free cell c h =
    all_sums _ keeps gs ts (y ∷ ts) (more y.place) k rs qs (λ q. refl)
    (λ r kept a. join_here keeps gs ts y r.sums k (ap (is_number k) at ∙ eq-eqb k k refl) free (subst (λ o. IfSome o (λ r. HasCell y.place r.sums)) kept cell) a)
    (λ q n e a. join_other keeps gs ts y q n (ap (is_number n) at ∙ ne_eqb k n (λ v. e (sym v))) a)
    c h

pub all_leave : (size : ℕ) (keeps : Scope → Bool) (gs : List Scope) (ts : List Task) (y : Task) (k : ℕ) (rs qs : List (Option (Box Record))) → keeper keeps gs (Some y.under) ≡ Some k → y.struck ≡ None → Changed (in_sums (less y.place)) k rs qs → RecordsFit size keeps gs (y ∷ ts) rs → RecordsFit size keeps gs ts qs
all_leave size keeps gs ts y k rs qs at free c h =
    all_sums _ keeps gs (y ∷ ts) ts (less y.place) k rs qs (λ q. refl)
    (λ r kept a. leave_here keeps gs ts y r.sums k (ap (is_number k) at ∙ eq-eqb k k refl) free a)
    (λ q n e a. leave_other keeps gs ts y q n (ap (is_number n) at ∙ ne_eqb k n (λ v. e (sym v))) a)
    c h

pub all_same : (size : ℕ) (keeps : Scope → Bool) (gs : List Scope) (ts us : List Task) (rs : List (Option (Box Record))) → ((p : Task → Bool) → count_by p ts ≡ count_by p us) → RecordsFit size keeps gs ts rs → RecordsFit size keeps gs us rs
all_same size keeps gs ts us rs same h n =
    both_more (RecordOf size keeps gs ts) (RecordOf size keeps gs us) (record_at rs n) (find (has_number n) gs) (λ r g found a. record { shape = a.shape; sums = sums_same keeps gs ts us r.sums g.number.0 same a.sums; faults = a.faults; places = a.places }) (h n)

-- The tasks but one.

abbrev pub others : TaskId → List Task → List Task
others t ts = filter (λ y. not (is_task t y)) ts

pub count_out : (t : TaskId) (n : ℕ) (ts : List Task) (x : Task) → TasksFall n ts → find (is_task t) ts ≡ Some x → (p : Task → Bool) → count_by p ts ≡ count_by p (x ∷ others t ts)
count_out t n [] x f e p = cc
count_out t n (h ∷ hs) x f e p =
    (elim (is_task t h) as (λ b. is_task t h ≡ b → cond b (Some h) (find (is_task t) hs) ≡ Some x → count_by p (h ∷ hs) ≡ count_by p (x ∷ cond (not b) (h ∷ others t hs) (others t hs))) [
      | true ↦ λ q k.
          let same : h ≡ x = cc in
          let num : h.number.0 ≡ t.0 = eqb-true h.number.0 t.0 q in
          let rest = count_filter p (λ y. not (is_task t y)) hs (each_more (λ y. y.number.0 < h.number.0) (λ y. not (is_task t y) ≡ false → p y ≡ false) (λ (y : Task) (low : y.number.0 < h.number.0) bad. absurd (true≢false (sym (ap not (ne_eqb y.number.0 t.0 (λ v. absurd (omega arith)))) ∙ bad))) hs (tasks_below h.number.0 hs f.1)) in
          let a = count_cons p h hs in
          let b = count_cons p x (others t hs) in
          let c = ap (λ (v : Task). one (p v)) same in
          omega arith
      | false ↦ λ q k.
          let a = count_cons p h hs in
          let b = count_cons p x (h ∷ others t hs) in
          let c = count_cons p h (others t hs) in
          let d = count_cons p x (others t hs) in
          let i = count_out t h.number.0 hs x f.1 k p in
          omega arith
    ]) refl e

pub count_back : (t : TaskId) (n : ℕ) (ts : List Task) (x : Task) (f : Task → Task) → TasksFall n ts → find (is_task t) ts ≡ Some x → (p : Task → Bool) → count_by p (f x ∷ others t ts) ≡ count_by p (change_first (is_task t) f ts)
count_back t n ts x f fall e p =
    let a = count_change p (is_task t) f ts x e in
    let b = count_out t n ts x fall e p in
    let c = count_cons p x (others t ts) in
    let d = count_cons p (f x) (others t ts) in
    omega arith
