-- What a release leaves of the records.
use Rattle.std.proofs.Common.{◌≡◌, ℕ, Bool, true, false, cond, ◌||◌, ◌&&◌, not, ltb, List, [], ◌∷◌, Option, Some, None, is_none, is_some, filter, count_by, refl, sym, ap, ◌∙◌, subst, arith}
use Rattle.std.specs.List.{find}
use Rattle.std.specs.Global.{Box}
use Rattle.std.proofs.lemmas.Bool.{eqb-true, ne_eqb, true≢false, and_right, not-true}
use Rattle.rx_rules.proofs.Common.{ScopeId, Tree, is_scope, on_chain, is_under, quiet, was_lost_at, without, has_number}
use Rattle.rx_base.proofs.SameIds.{scope-is}
use Rattle.rx_rules.specs.declared.tasks.Task.{Task}
use Rattle.rx_rules.specs.declared.tasks.Scope.{Scope}
use Rattle.rx_tree_laws.specs.Chains.{meets}
use Rattle.rx_tree_laws.specs.Sound.{Sound}
use Rattle.rx_tree_laws.proofs.Releasing.{on_meets, passes_marks, drops, leaves, stayer_free, each_none, each_filtered, each_all}
use Rattle.rx_counts.specs.declared.record.Record.{Record}
use Rattle.rx_counts.specs.Keeping.{stands_home, keeper, finishes, is_number, kept_at, same_where, is_orphan, held}
use Rattle.rx_counts.specs.Stands.{RecordOf, Both, RecordsFit, record_at}
use Rattle.rx_counts.specs.Inside.Freeing.{IsLast}
use Rattle.rx_counts.proofs.Counting.{count_same, count_filter, any_counted, sum_same, sum_filter}
use Rattle.rx_counts.proofs.Walks.{keeper_filter}
use Rattle.rx_counts.proofs.Lasting.{kept_here}
use Rattle.rx_counts.proofs.Joining.{both_more, number_is}

one_of_two : (m n : ℕ) (o : Option ℕ) → (n ≡ m → ⊥) → is_number m o ≡ true → is_number n o ≡ false
one_of_two m n (Some k) apart e = let a : k ≡ m = eqb-true k m e in ne_eqb k n (λ b. apart (omega arith))
one_of_two m n None apart e = refl

goes_under : (u o : Bool) → not (u && o) ≡ false → u ≡ true
goes_under true o e = refl
goes_under false o e = absurd (true≢false e)

-- for any property of tasks: the count at a scope that stays
count_released : (T : Tree) (s : ScopeId) (n : ℕ) (p : Task → Bool) → Sound T → quiet T s ≡ true → ((u : ScopeId) → meets s T.scopes (Some u) ≡ true → is_number s.0 (keeper (stands_home T.dead) T.scopes (Some u)) ≡ true) → (n ≡ s.0 → ⊥) → count_by (λ x. p x && kept_at (stands_home T.dead) (without T s).scopes n x) (without T s).tasks ≡ count_by (λ x. p x && kept_at (stands_home T.dead) T.scopes n x) T.tasks
count_released T s n p h still here apart =
    let keeps : Scope → Bool = stands_home T.dead in
    let q : Scope → Bool = λ g. not (on_chain T s g.number) in
    count_same (λ x. p x && kept_at keeps (without T s).scopes n x) (λ x. p x && kept_at keeps T.scopes n x) (without T s).tasks
    (each_filtered (λ x. is_under T s x && is_none x.struck ≡ false) (λ x. p x && kept_at keeps (without T s).scopes n x ≡ p x && kept_at keeps T.scopes n x) (λ x. not (leaves T s x))
    (λ x f e. ap (λ o. p x && is_number n o) (keeper_filter q keeps T.scopes (Some x.under) (passes_marks q s T.scopes (Some x.under) (drops T s h) (stayer_free T s x f e))))
    T.tasks (each_none (λ x. is_under T s x && is_none x.struck) T.tasks (not-true _ still)))
    ∙ count_filter (λ x. p x && kept_at keeps T.scopes n x) (λ x. not (leaves T s x)) T.tasks
    (each_all _ (λ (x : Task). λ e. and_right (p x) (kept_at keeps T.scopes n x) (one_of_two s.0 n (keeper keeps T.scopes (Some x.under)) apart (here x.under (sym (on_meets s T.scopes (Some x.under)) ∙ goes_under (is_under T s x) (is_some x.struck) e)))) T.tasks)

not_met : (a b : Bool) → a ≡ b → not a ≡ true → b ≡ false
not_met true b e k = absurd (true≢false (sym k))
not_met false b e k = sym e

met_of : (a b : Bool) → a ≡ b → not a ≡ false → b ≡ true
met_of true b e k = sym e
met_of false b e k = absurd (true≢false k)

-- and for any weight of scopes: what a scope that stays has adopted
pub held_released : (w : Scope → ℕ) (T : Tree) (s : ScopeId) (n : ℕ) → Sound T → ((u : ScopeId) → meets s T.scopes (Some u) ≡ true → is_number s.0 (keeper (stands_home T.dead) T.scopes (Some u)) ≡ true) → (n ≡ s.0 → ⊥) → held w (stands_home T.dead) (without T s).scopes n ≡ held w (stands_home T.dead) T.scopes n
held_released w T s n h here apart =
    let keeps : Scope → Bool = stands_home T.dead in
    let q : Scope → Bool = λ g. not (on_chain T s g.number) in
    sum_same (λ k. cond (is_orphan keeps (filter q T.scopes) n k) (w k) 0) (λ k. cond (is_orphan keeps T.scopes n k) (w k) 0) (filter q T.scopes)
    (each_filtered (λ k. Unit {0}) (λ k. cond (is_orphan keeps (filter q T.scopes) n k) (w k) 0 ≡ cond (is_orphan keeps T.scopes n k) (w k) 0) q
    (λ k u e. ap (λ o. cond (not (keeps k) && is_number n o) (w k) 0) (keeper_filter q keeps T.scopes (Some k.number) (passes_marks q s T.scopes (Some k.number) (drops T s h) (not_met _ _ (on_meets s T.scopes (Some k.number)) e))))
    T.scopes (each_all _ (λ (k : Scope). tt) T.scopes))
    ∙ sum_filter (λ k. cond (is_orphan keeps T.scopes n k) (w k) 0) q T.scopes
    (each_all _ (λ (k : Scope). λ e. ap (λ b. cond b (w k) 0) (and_right (not (keeps k)) (is_number n (keeper keeps T.scopes (Some k.number))) (one_of_two s.0 n (keeper keeps T.scopes (Some k.number)) apart (here k.number (met_of _ _ (on_meets s T.scopes (Some k.number)) e))))) T.scopes)

-- who leaves is counted at s alone, and who stays is counted where it was
record_released : {size : ℕ} (T : Tree) (s : ScopeId) (r : Record) (g : Scope) → Sound T → quiet T s ≡ true → ((u : ScopeId) → meets s T.scopes (Some u) ≡ true → is_number s.0 (keeper (stands_home T.dead) T.scopes (Some u)) ≡ true) → (g.number.0 ≡ s.0 → ⊥) → meets s T.scopes (Some g.number) ≡ false → RecordOf size (stands_home T.dead) T.scopes T.tasks r g → RecordOf size (stands_home T.dead) (without T s).scopes (without T s).tasks r g
record_released T s r g h still here apart free a =
    let q : Scope → Bool = λ k. not (on_chain T s k.number) in
    record {
      shape = record { kind = a.shape.kind; home = a.shape.home; parent = a.shape.parent; finish = keeper_filter q finishes T.scopes (Some g.number) (passes_marks q s T.scopes (Some g.number) (drops T s h) free) ∙ a.shape.finish };
      sums =
          record {
            cells = a.sums.cells;
            counts = λ w. a.sums.counts w ∙ sym (count_released T s g.number.0 (λ x. is_none x.struck && same_where w x.place) h still here apart);
            total = a.sums.total ∙ sym (count_released T s g.number.0 (λ x. is_none x.struck) h still here apart);
            orphans = a.sums.orphans ∙ sym (held_released (λ k. 1) T s g.number.0 h here apart);
            lost = λ p low. a.sums.lost p low ∙ any_counted (λ x. was_lost_at p x && kept_at (stands_home T.dead) T.scopes g.number.0 x) T.tasks ∙ ap (ltb 0) (sym (count_released T s g.number.0 (was_lost_at p) h still here apart)) ∙ sym (any_counted (λ x. was_lost_at p x && kept_at (stands_home T.dead) (without T s).scopes g.number.0 x) (without T s).tasks);
          };
      faults = a.faults;
      places = a.places;
    }

-- Look-ups in the scopes that stay.

find_gone : (q : Scope → Bool) (n : ℕ) (gs : List Scope) → ((g : Scope) → g.number.0 ≡ n → q g ≡ false) → find (has_number n) (filter q gs) ≡ None
find_gone q n [] h = refl
find_gone q n (g ∷ gs) h =
    (elim (q g) as (λ b. q g ≡ b → find (has_number n) (cond b (g ∷ filter q gs) (filter q gs)) ≡ None) [
      | true ↦ λ e.
          (elim (has_number n g) as (λ c. has_number n g ≡ c → cond c (Some g) (find (has_number n) (filter q gs)) ≡ None) [
            | true ↦ λ k. absurd (true≢false (sym e ∙ h g (eqb-true g.number.0 n k)))
            | false ↦ λ k. find_gone q n gs h
          ]) refl
      | false ↦ λ e. find_gone q n gs h
    ]) refl

find_stays : (q : Scope → Bool) (n : ℕ) (gs : List Scope) → ((g : Scope) → g.number.0 ≡ n → q g ≡ true) → find (has_number n) (filter q gs) ≡ find (has_number n) gs
find_stays q n [] h = refl
find_stays q n (g ∷ gs) h =
    (elim (has_number n g) as (λ c. has_number n g ≡ c → find (has_number n) (cond (q g) (g ∷ filter q gs) (filter q gs)) ≡ cond c (Some g) (find (has_number n) gs)) [
      | true ↦ λ k. rw (h g (eqb-true g.number.0 n k), k) refl
      | false ↦ λ k.
          elim (q g) as (λ b. find (has_number n) (cond b (g ∷ filter q gs) (filter q gs)) ≡ find (has_number n) gs) [
            | true ↦ rw k (find_stays q n gs h)
            | false ↦ find_stays q n gs h
          ]
    ]) refl

abbrev number_id : ℕ → ScopeId
number_id n = record { 0 = n }

own_met : (s : ScopeId) (gs : List Scope) (g : Scope) → find (is_scope s) gs ≡ Some g → meets s gs (Some s) ≡ true
own_met s [] g e = cc
own_met s (k ∷ ks) g e =
    (elim (is_scope s k) as (λ b. is_scope s k ≡ b → cond b (Some k) (find (is_scope s) ks) ≡ Some g → cond b (is_scope s k || meets s ks k.parent) (meets s ks (Some s)) ≡ true) [
      | true ↦ λ m v. rw m refl
      | false ↦ λ m v. own_met s ks g v
    ]) refl e

pub met_own : (T : Tree) (s : ScopeId) → IsLast T s → meets s T.scopes (Some s) ≡ true
met_own T s i = own_met s T.scopes i.scope i.stands

-- the records of the scopes that stay, and no other, are those of the tree without s
pub all_released : (size : ℕ) (T : Tree) (s : ScopeId) (rs qs : List (Option (Box Record))) → Sound T → IsLast T s → quiet T s ≡ true → ((u : ScopeId) → record_at qs u.0 ≡ cond (meets s T.scopes (Some u)) None (record_at rs u.0)) → RecordsFit size (stands_home T.dead) T.scopes T.tasks rs → RecordsFit size (stands_home T.dead) (without T s).scopes (without T s).tasks qs
all_released size T s rs qs h i still gone fit n =
    let keeps : Scope → Bool = stands_home T.dead in
    let q : Scope → Bool = λ g. not (on_chain T s g.number) in
    let u : ScopeId = number_id n in
    (elim (meets s T.scopes (Some u)) as (λ b. meets s T.scopes (Some u) ≡ b → record_at qs n ≡ cond b None (record_at rs n) → Both (RecordOf size keeps (without T s).scopes (without T s).tasks) (record_at qs n) (find (has_number n) (without T s).scopes)) [
      | true ↦ λ m e.
          subst (λ o. Both (RecordOf size keeps (without T s).scopes (without T s).tasks) o (find (has_number n) (without T s).scopes)) (sym e)
          (subst (λ o. Both (RecordOf size keeps (without T s).scopes (without T s).tasks) None o) (sym (find_gone q n T.scopes (λ g num. ap not (on_meets s T.scopes (Some g.number) ∙ ap (λ (v : ScopeId). meets s T.scopes (Some v)) (scope-is g.number u num) ∙ m)))) tt)
      | false ↦ λ m e.
          subst (λ o. Both (RecordOf size keeps (without T s).scopes (without T s).tasks) o (find (has_number n) (without T s).scopes)) (sym e)
          (subst (λ o. Both (RecordOf size keeps (without T s).scopes (without T s).tasks) (record_at rs n) o) (sym (find_stays q n T.scopes (λ g num. ap not (on_meets s T.scopes (Some g.number) ∙ ap (λ (v : ScopeId). meets s T.scopes (Some v)) (scope-is g.number u num) ∙ m))))
          (both_more (RecordOf size keeps T.scopes T.tasks) (RecordOf size keeps (without T s).scopes (without T s).tasks) (record_at rs n) (find (has_number n) T.scopes)
          (λ r g found a.
          let num : g.number.0 ≡ n = number_is n T.scopes g found in
          let free : meets s T.scopes (Some g.number) ≡ false = ap (λ (v : ScopeId). meets s T.scopes (Some v)) (scope-is g.number u num) ∙ m in
          record_released T s r g h still (kept_here T s h i still) (λ e2. true≢false (sym (met_own T s i) ∙ ap (λ (v : ScopeId). meets s T.scopes (Some v)) (sym (scope-is g.number s e2)) ∙ free)) free a)
          (fit n)))
    ]) refl (gone u)
