-- A new scope has a record of zeros, and the other records stay.
use Rattle.std.proofs.Common.{◌≡◌, ℕ, ◌<◌, ◌≤◌, Bool, true, false, cond, ◌&&◌, ◌==◌, not, List, ◌∷◌, Option, Some, is_none, slice_index_or, length, replicate, sum_by, sym, ap, ◌∙◌, subst, arith, ⊎_elim}
use Rattle.std.specs.List.{find}
use Rattle.std.specs.Global.{Box}
use Rattle.std.proofs.lemmas.Bool.{eq-eqb, ne_eqb, and_left, and_right, cases_eq, cases_lt, false_from_ne_true}
use Rattle.std.proofs.lemmas.List.{get_or-replicate, get_or_past, length-replicate}
use Rattle.std.proofs.lemmas.List.Sums.{sum_by-cons}
use Rattle.rx_base.proofs.Bits.{no_bit}
use Rattle.rx_tree_laws.proofs.Staying.{any_same}
use Rattle.rx_tree_laws.proofs.Below.{found_low}
use Rattle.rx_tree_laws.proofs.Enabling.{any_none}
use Rattle.rx_rules.proofs.Common.{ScopeId, was_lost_at, has_number}
use Rattle.rx_rules.specs.declared.tasks.Where.{Where}
use Rattle.rx_rules.specs.declared.tasks.Task.{Task}
use Rattle.rx_rules.specs.declared.tasks.Scope.{Scope}
use Rattle.rx_tree_laws.specs.Chains.{Falls}
use Rattle.rx_tree_laws.specs.Sound.{Each}
use Rattle.rx_tree_laws.proofs.Changes.{each_more}
use Rattle.rx_tree_laws.proofs.Releasing.{each_below}
use Rattle.rx_counts.specs.declared.record.Sums.{Sums}
use Rattle.rx_counts.specs.declared.record.Record.{Record}
use Rattle.rx_counts.specs.Keeping.{keeper, finishes, is_number, kept_at, same_where, is_orphan, held}
use Rattle.rx_counts.specs.Stands.{table_size, slot, count_in, ShapeOf, SumsOf, RecordOf, Both, RecordsFit, record_at, Pushed}
use Rattle.rx_counts.proofs.Counting.{count_same, count_none, sum_same, sum_none}
use Rattle.rx_counts.proofs.HandOver.{keeper_older}
use Rattle.rx_counts.proofs.Walks.{keeper_skips}
use Rattle.rx_counts.specs.Inside.Opening.{IsZero}
use Rattle.rx_counts.proofs.Joining.{both_more}

-- no task is counted at a scope that is newer than all
none_new : (keeps : Scope → Bool) (g : Scope) (gs : List Scope) (u : ScopeId) → Falls g.number.0 gs → u.0 < g.number.0 → is_number g.number.0 (keeper keeps (g ∷ gs) (Some u)) ≡ false
none_new keeps g gs u f low =
    ap (is_number g.number.0) (keeper_skips keeps g gs u low)
    ∙ false_from_ne_true (is_number g.number.0 (keeper keeps gs (Some u))) (λ e. let bad : g.number.0 < g.number.0 = keeper_older keeps g.number.0 g.number.0 gs (Some u) f e in absurd (omega arith))

-- the head keeps counts, so it is no orphan
head_held : (w : Scope → ℕ) (keeps : Scope → Bool) (g : Scope) (gs : List Scope) (n : ℕ) → keeps g ≡ true → held w keeps (g ∷ gs) n ≡ sum_by (λ k. cond (is_orphan keeps (g ∷ gs) n k) (w k) 0) gs
head_held w keeps g gs n k =
    let a = sum_by-cons (λ k. cond (is_orphan keeps (g ∷ gs) n k) (w k) 0) g gs in
    let b : cond (is_orphan keeps (g ∷ gs) n g) (w g) 0 ≡ 0 = ap (λ b. cond b (w g) 0) (and_left (not (keeps g)) (is_number n (keeper keeps (g ∷ gs) (Some g.number))) (ap not k)) in
    omega arith

pub held_further : (w : Scope → ℕ) (keeps : Scope → Bool) (g : Scope) (gs : List Scope) (n : ℕ) → Falls g.number.0 gs → keeps g ≡ true → held w keeps (g ∷ gs) n ≡ held w keeps gs n
held_further w keeps g gs n f k =
    head_held w keeps g gs n k
    ∙ sum_same (λ k. cond (is_orphan keeps (g ∷ gs) n k) (w k) 0) (λ k. cond (is_orphan keeps gs n k) (w k) 0) gs
    (each_more (λ k. k.number.0 < g.number.0) _ (λ (x : Scope) low. ap (λ o. cond (not (keeps x) && is_number n o) (w x) 0) (keeper_skips keeps g gs x.number low)) gs (each_below g.number.0 gs f))

pub held_new : (w : Scope → ℕ) (keeps : Scope → Bool) (g : Scope) (gs : List Scope) → Falls g.number.0 gs → keeps g ≡ true → held w keeps (g ∷ gs) g.number.0 ≡ 0
held_new w keeps g gs f k =
    head_held w keeps g gs g.number.0 k
    ∙ sum_none (λ k. cond (is_orphan keeps (g ∷ gs) g.number.0 k) (w k) 0) gs
    (each_more (λ k. k.number.0 < g.number.0) _ (λ (x : Scope) low. ap (λ b. cond b (w x) 0) (and_right (not (keeps x)) (is_number g.number.0 (keeper keeps (g ∷ gs) (Some x.number))) (none_new keeps g gs x.number f low))) gs (each_below g.number.0 gs f))

-- each count is 0
pub zeros_at : (n i : ℕ) → ◌≡◌ {A = ℕ} (slice_index_or (replicate n 0) i 0) 0
zeros_at n i =
    ⊎_elim
    (λ (low : i < n). get_or-replicate n i 0 0 low)
    (λ (high : n ≤ i). get_or_past (replicate n 0) i 0 (subst (λ (m : ℕ). m ≤ i) (sym (length-replicate {A = ℕ} n 0)) high))
    (cases_lt i n)

pub zero_count : (size : ℕ) (q : Sums) (w : Where) → IsZero size q → count_in q w ≡ 0
zero_count size q w z = ap (λ xs. slice_index_or xs (slot q.places w) 0) z.counts ∙ zeros_at (table_size size) (slot q.places w)

pub sums_fresh : (keeps : Scope → Bool) (g : Scope) (gs : List Scope) (ts : List Task) (q : Sums) → Falls g.number.0 gs → Each (λ x. x.under.0 < g.number.0) ts → keeps g ≡ true → (size : ℕ) → IsZero size q → SumsOf keeps (g ∷ gs) ts q g.number.0
sums_fresh keeps g gs ts q f low k size h =
    record {
      cells = ap length h.counts ∙ length-replicate {A = ℕ} (table_size size) 0 ∙ ap table_size (sym h.places);
      counts = λ w.
          zero_count size q w h
          ∙ sym (count_none (λ x. (is_none x.struck && same_where w x.place) && kept_at keeps (g ∷ gs) g.number.0 x) ts
          (each_more (λ x. x.under.0 < g.number.0) _ (λ (x : Task) l. and_right (is_none x.struck && same_where w x.place) (kept_at keeps (g ∷ gs) g.number.0 x) (none_new keeps g gs x.under f l)) ts low));
      total =
          h.total
          ∙ sym (count_none (λ x. is_none x.struck && kept_at keeps (g ∷ gs) g.number.0 x) ts
          (each_more (λ x. x.under.0 < g.number.0) _ (λ (x : Task) l. and_right (is_none x.struck) (kept_at keeps (g ∷ gs) g.number.0 x) (none_new keeps g gs x.under f l)) ts low));
      orphans = h.orphans ∙ sym (held_new (λ k. 1) keeps g gs f k);
      lost = λ p below.
          no_bit q.lost.0 p h.lost
          ∙ sym (any_none (λ x. was_lost_at p x && kept_at keeps (g ∷ gs) g.number.0 x) ts
          (each_more (λ x. x.under.0 < g.number.0) _ (λ (x : Task) l. and_right (was_lost_at p x) (kept_at keeps (g ∷ gs) g.number.0 x) (none_new keeps g gs x.under f l)) ts low));
    }

pub sums_further : (keeps : Scope → Bool) (g : Scope) (gs : List Scope) (ts : List Task) (q : Sums) (n : ℕ) → Falls g.number.0 gs → Each (λ x. x.under.0 < g.number.0) ts → keeps g ≡ true → SumsOf keeps gs ts q n → SumsOf keeps (g ∷ gs) ts q n
sums_further keeps g gs ts q n f low k a =
    record {
      cells = a.cells;
      counts = λ w. a.counts w ∙ sym (count_same (λ x. (is_none x.struck && same_where w x.place) && kept_at keeps (g ∷ gs) n x) (λ x. (is_none x.struck && same_where w x.place) && kept_at keeps gs n x) ts
          (each_more (λ x. x.under.0 < g.number.0) _ (λ (x : Task) l. ap (λ o. (is_none x.struck && same_where w x.place) && is_number n o) (keeper_skips keeps g gs x.under l)) ts low));
      total = a.total ∙ sym (count_same (λ x. is_none x.struck && kept_at keeps (g ∷ gs) n x) (λ x. is_none x.struck && kept_at keeps gs n x) ts
          (each_more (λ x. x.under.0 < g.number.0) _ (λ (x : Task) l. ap (λ o. is_none x.struck && is_number n o) (keeper_skips keeps g gs x.under l)) ts low));
      orphans = a.orphans ∙ sym (held_further (λ k. 1) keeps g gs n f k);
      lost = λ p below. a.lost p below ∙ sym (any_same (λ x. was_lost_at p x && kept_at keeps (g ∷ gs) n x) (λ x. was_lost_at p x && kept_at keeps gs n x) ts
          (each_more (λ x. x.under.0 < g.number.0) _ (λ (x : Task) l. ap (λ o. was_lost_at p x && is_number n o) (keeper_skips keeps g gs x.under l)) ts low));
    }

shape_further : (g : Scope) (gs : List Scope) (r : Record) (k : Scope) → k.number.0 < g.number.0 → ShapeOf gs r k → ShapeOf (g ∷ gs) r k
shape_further g gs r k low a = record { kind = a.kind; home = a.home; parent = a.parent; finish = keeper_skips finishes g gs k.number low ∙ a.finish }

-- the records with the new one at their end; the tasks may become more
pub all_opened : {size : ℕ} (keeps : Scope → Bool) (g : Scope) (gs : List Scope) (ts us : List Task) (rs qs : List (Option (Box Record))) (r : Record) → length rs ≡ g.number.0 → Falls g.number.0 gs → ((q : Sums) (n : ℕ) → n < g.number.0 → SumsOf keeps gs ts q n → SumsOf keeps (g ∷ gs) us q n) → Pushed r rs qs → RecordOf size keeps (g ∷ gs) us r g → RecordsFit size keeps gs ts rs → RecordsFit size keeps (g ∷ gs) us qs
all_opened {size = size} keeps g gs ts us rs qs r len f old p new h n =
    ⊎_elim
    (λ (e : n ≡ g.number.0).
    let at : record_at qs n ≡ Some r = ap (record_at qs) (e ∙ sym len) ∙ p.here in
    let mine : g.number.0 == n ≡ true = eq-eqb g.number.0 n (sym e) in
    subst (λ o. Both (RecordOf size keeps (g ∷ gs) us) o (find (has_number n) (g ∷ gs))) (sym at) (rw mine new))
    (λ (e : n ≡ g.number.0 → ⊥).
    let other : g.number.0 == n ≡ false = ne_eqb g.number.0 n (λ q. e (sym q)) in
    subst (λ o. Both (RecordOf size keeps (g ∷ gs) us) o (find (has_number n) (g ∷ gs))) (sym (p.others n (λ q. e (q ∙ len))))
    (rw other
    (both_more (RecordOf size keeps gs ts) (RecordOf size keeps (g ∷ gs) us) (record_at rs n) (find (has_number n) gs)
    (λ v j found a. let low : j.number.0 < g.number.0 = found_low (has_number n) g.number.0 gs j f found in record { shape = shape_further g gs v j low a.shape; sums = old v.sums j.number.0 low a.sums; faults = a.faults; places = a.places }) (h n))))
    (cases_eq n g.number.0)
