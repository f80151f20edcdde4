-- The faults of one scope change.
use Rattle.std.proofs.Common.{◌≡◌, ℕ, Bool, true, false, cond, ◌&&◌, ◌==◌, not, List, [], ◌∷◌, Option, Some, None, is_none, option_map, refl, sym, ap, ◌∙◌, subst, ⊎_elim}
use Rattle.std.specs.List.{find}
use Rattle.std.specs.Global.{Box}
use Rattle.std.proofs.lemmas.Bool.{eqb-true, ne_eqb, cases_eq}
use Rattle.rx_tree_laws.proofs.Releasing.{each_all}
use Rattle.rx_tree_laws.proofs.Staying.{any_same}
use Rattle.rx_rules.proofs.Common.{Fault, ScopeId, is_scope, change_first, was_lost_at, has_number}
use Rattle.rx_rules.specs.declared.tasks.Task.{Task}
use Rattle.rx_rules.specs.declared.tasks.Scope.{Scope}
use Rattle.rx_tree_laws.proofs.Stay.{faulted}
use Rattle.rx_counts.specs.declared.record.Sums.{Sums}
use Rattle.rx_counts.specs.declared.record.Record.{Record}
use Rattle.rx_counts.specs.Keeping.{keeper, finishes, is_number, kept_at, same_where, is_orphan, held}
use Rattle.rx_counts.specs.Stands.{ShapeOf, SumsOf, RecordOf, Both, RecordsFit, record_at, Changed}
use Rattle.rx_counts.proofs.Counting.{count_same, sum_same, sum_change}
use Rattle.rx_counts.proofs.Walks.{keeper_faulted}

module _ (b e : Scope → List Fault) (s : ScopeId) (keeps : Scope → Bool) (same : (g : Scope) → keeps (faulted b e g) ≡ keeps g) where
  pub held_faulted : (w : Scope → ℕ) → ((g : Scope) → w (faulted b e g) ≡ w g) → (gs : List Scope) (n : ℕ) → held w keeps (change_first (is_scope s) (faulted b e) gs) n ≡ held w keeps gs n
  held_faulted w alike gs n =
      sum_same (λ k. cond (is_orphan keeps (change_first (is_scope s) (faulted b e) gs) n k) (w k) 0) (λ k. cond (is_orphan keeps gs n k) (w k) 0) (change_first (is_scope s) (faulted b e) gs)
      (each_all _ (λ (k : Scope). ap (λ o. cond (not (keeps k) && is_number n o) (w k) 0) (keeper_faulted b e (is_scope s) keeps same gs (Some k.number))) (change_first (is_scope s) (faulted b e) gs))
      ∙ sum_change (λ k. cond (is_orphan keeps gs n k) (w k) 0) (is_scope s) (faulted b e) gs
      (λ k. ap (λ c. cond (not c && is_number n (keeper keeps gs (Some k.number))) (w (faulted b e k)) 0) (same k) ∙ ap (λ (m : ℕ). cond (is_orphan keeps gs n k) m 0) (alike k))

  pub sums_faulted : (gs : List Scope) (ts : List Task) (q : Sums) (n : ℕ) → SumsOf keeps gs ts q n → SumsOf keeps (change_first (is_scope s) (faulted b e) gs) ts q n
  sums_faulted gs ts q n a =
      record {
        cells = a.cells;
        counts = λ w. a.counts w ∙ sym (count_same (λ x. (is_none x.struck && same_where w x.place) && kept_at keeps (change_first (is_scope s) (faulted b e) gs) n x) (λ x. (is_none x.struck && same_where w x.place) && kept_at keeps gs n x) ts
            (each_all _ (λ (x : Task). ap (λ o. (is_none x.struck && same_where w x.place) && is_number n o) (keeper_faulted b e (is_scope s) keeps same gs (Some x.under))) ts));
        total = a.total ∙ sym (count_same (λ x. is_none x.struck && kept_at keeps (change_first (is_scope s) (faulted b e) gs) n x) (λ x. is_none x.struck && kept_at keeps gs n x) ts
            (each_all _ (λ (x : Task). ap (λ o. is_none x.struck && is_number n o) (keeper_faulted b e (is_scope s) keeps same gs (Some x.under))) ts));
        orphans = a.orphans ∙ sym (held_faulted (λ k. 1) (λ k. refl) gs n);
        lost = λ p low. a.lost p low ∙ sym (any_same (λ x. was_lost_at p x && kept_at keeps (change_first (is_scope s) (faulted b e) gs) n x) (λ x. was_lost_at p x && kept_at keeps gs n x) ts
            (each_all _ (λ (x : Task). ap (λ o. was_lost_at p x && is_number n o) (keeper_faulted b e (is_scope s) keeps same gs (Some x.under))) ts));
      }

  shape_faulted : (gs : List Scope) (r q : Record) (g : Scope) → q.kind ≡ r.kind → q.home ≡ r.home → q.parent ≡ r.parent → q.finish ≡ r.finish → ShapeOf gs r g → ShapeOf (change_first (is_scope s) (faulted b e) gs) q g
  shape_faulted gs r q g kind home parent finish a =
      record {
        kind = kind ∙ a.kind;
        home = home ∙ a.home;
        parent = parent ∙ a.parent;
        finish = keeper_faulted b e (is_scope s) finishes (λ k. refl) gs (Some g.number) ∙ a.finish ∙ ap (λ (v : ScopeId). Some v.0) (sym finish);
      }

  find_here : (gs : List Scope) (n : ℕ) → n ≡ s.0 → find (has_number n) (change_first (is_scope s) (faulted b e) gs) ≡ option_map (faulted b e) (find (has_number n) gs)
  find_here [] n m = refl
  find_here (g ∷ gs) n m =
      subst (λ (i : ℕ). find (has_number i) (change_first (is_scope s) (faulted b e) (g ∷ gs)) ≡ option_map (faulted b e) (find (has_number i) (g ∷ gs))) (sym m)
      ((elim (is_scope s g) as (λ c. is_scope s g ≡ c → find (has_number s.0) (cond c (faulted b e g ∷ gs) (g ∷ change_first (is_scope s) (faulted b e) gs)) ≡ option_map (faulted b e) (cond c (Some g) (find (has_number s.0) gs))) [
        | true ↦ λ k. rw k
        | false ↦ λ k. rw k (find_here gs s.0 refl)
      ]) refl)

  find_other : (gs : List Scope) (n : ℕ) → (n ≡ s.0 → ⊥) → find (has_number n) (change_first (is_scope s) (faulted b e) gs) ≡ find (has_number n) gs
  find_other [] n m = refl
  find_other (g ∷ gs) n m =
      (elim (is_scope s g) as (λ c. is_scope s g ≡ c → find (has_number n) (cond c (faulted b e g ∷ gs) (g ∷ change_first (is_scope s) (faulted b e) gs)) ≡ find (has_number n) (g ∷ gs)) [
        | true ↦ λ k. let other : g.number.0 == n ≡ false = ne_eqb g.number.0 n (λ v. m (sym v ∙ eqb-true g.number.0 s.0 k)) in rw other
        | false ↦ λ k. ap (cond (has_number n g) (Some g)) (find_other gs n m)
      ]) refl

  both_found : (P Q : Record → Scope → Type 0) (f : Record → Record) (a : Option Record) (o : Option Scope) → ((r : Record) (g : Scope) → o ≡ Some g → P r g → Q (f r) (faulted b e g)) → Both P a o → Both Q (option_map f a) (option_map (faulted b e) o)
  both_found P Q f (Some r) (Some g) k h = k r g refl h
  both_found P Q f (Some r) None k h = absurd h
  both_found P Q f None (Some g) k h = absurd h
  both_found P Q f None None k h = tt

  both_same : (P Q : Record → Scope → Type 0) (a : Option Record) (o : Option Scope) → ((r : Record) (g : Scope) → P r g → Q r g) → Both P a o → Both Q a o
  both_same P Q (Some r) (Some g) k h = k r g h
  both_same P Q (Some r) None k h = absurd h
  both_same P Q None (Some g) k h = absurd h
  both_same P Q None None k h = tt

  pub all_faulted : (size : ℕ) (gs : List Scope) (ts : List Task) (f : Record → Record) (rs qs : List (Option (Box Record))) → ((r : Record) → ((f r).kind ≡ r.kind) × ((f r).home ≡ r.home) × ((f r).parent ≡ r.parent) × ((f r).finish ≡ r.finish) × ((f r).sums ≡ r.sums)) → ((r : Record) (g : Scope) → find (has_number s.0) gs ≡ Some g → keeps g ≡ true → (r.body ≡ g.body) × (r.ends ≡ g.ends) → ((f r).body ≡ b g) × ((f r).ends ≡ e g)) → Changed f s.0 rs qs → RecordsFit size keeps gs ts rs → RecordsFit size keeps (change_first (is_scope s) (faulted b e) gs) ts qs
  all_faulted size gs ts f rs qs only faults c h n =
      ⊎_elim
      (λ (k : n ≡ s.0).
      subst (λ (m : ℕ). Both (RecordOf size keeps (change_first (is_scope s) (faulted b e) gs) ts) (record_at qs m) (find (has_number m) (change_first (is_scope s) (faulted b e) gs))) (sym k)
      (subst (λ o. Both (RecordOf size keeps (change_first (is_scope s) (faulted b e) gs) ts) o (find (has_number s.0) (change_first (is_scope s) (faulted b e) gs))) (sym c.here)
      (subst (λ o. Both (RecordOf size keeps (change_first (is_scope s) (faulted b e) gs) ts) (option_map f (record_at rs s.0)) o) (sym (find_here gs s.0 refl))
      (both_found (RecordOf size keeps gs ts) (RecordOf size keeps (change_first (is_scope s) (faulted b e) gs) ts) f (record_at rs s.0) (find (has_number s.0) gs)
      (λ r g found a.
      let o = only r in
      let sh = shape_faulted gs r (f r) g o.0 o.1 o.2 o.3 a.shape in
      record {
        shape = record { kind = sh.kind; home = sh.home; parent = sh.parent; finish = sh.finish };
        sums = subst (λ (v : Sums). SumsOf keeps (change_first (is_scope s) (faulted b e) gs) ts v g.number.0) (sym o.4) (sums_faulted gs ts r.sums g.number.0 a.sums);
        faults = λ v. let live : keeps g ≡ true = sym (same g) ∙ v in faults r g found live (a.faults live);
        places = λ v. ap (λ (x : Sums). x.places) o.4 ∙ a.places (sym (same g) ∙ v);
      }) (h s.0)))))
      (λ (k : n ≡ s.0 → ⊥).
      subst (λ o. Both (RecordOf size keeps (change_first (is_scope s) (faulted b e) gs) ts) o (find (has_number n) (change_first (is_scope s) (faulted b e) gs))) (sym (c.others n k))
      (subst (λ o. Both (RecordOf size keeps (change_first (is_scope s) (faulted b e) gs) ts) (record_at rs n) o) (sym (find_other gs n k))
      (both_same (RecordOf size keeps gs ts) (RecordOf size keeps (change_first (is_scope s) (faulted b e) gs) ts) (record_at rs n) (find (has_number n) gs)
      (λ r g a. record { shape = shape_faulted gs r r g refl refl refl refl a.shape; sums = sums_faulted gs ts r.sums g.number.0 a.sums; faults = a.faults; places = a.places }) (h n))))
      (cases_eq n s.0)
