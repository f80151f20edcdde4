-- Where the own scopes of a task stand, and whom a release leaves.
use Rattle.std.proofs.Common.{◌≡◌, ◌≢◌, ℕ, ◌<◌, ◌≤◌, Bool, true, false, cond, not, ◌||◌, ◌&&◌, ◌==◌, List, [], ◌∷◌, filter, Option, Some, None, is_none, refl, sym, ap, ◌∙◌, subst, arith}
use Rattle.std.specs.List.{find, list_any}
use Rattle.std.proofs.Math.Bool.{and-true}
use Rattle.std.proofs.lemmas.Bool.{eqb-true, eq-eqb, ne_eqb, true≢false, or_parts, or_from, and_left, false_from_ne_true, true_from_ne_false, not-true}
use Rattle.rx_rules.proofs.Common.{TaskId, ScopeId, Tree, is_task, task_of, is_scope, opened_by, own_scope, on_chain, is_under, quiet}
use Rattle.rx_rules.specs.declared.tasks.Task.{Task}
use Rattle.rx_rules.specs.declared.tasks.Scope.{Scope}
use Rattle.rx_tree_laws.specs.Chains.{meets, HasOpener, Opened, Falls}
use Rattle.rx_tree_laws.specs.Sound.{Each, Sound}
use Rattle.rx_tree_laws.proofs.Changes.{each_found, each_more}
use Rattle.rx_tree_laws.proofs.Chains.{met_below, met_start, meets_skips}
use Rattle.rx_tree_laws.proofs.Releasing.{each_below, each_both, each_none, on_meets, none_below}

-- who is under a scope hangs under one that is not older
pub met_newer : (s : ScopeId) (n : ℕ) (gs : List Scope) (u : ScopeId) → Falls n gs → meets s gs (Some u) ≡ true → s.0 ≤ u.0
met_newer s n [] u f m = absurd (true≢false (sym m))
met_newer s n (g ∷ gs) u f m =
    (elim (g.number.0 == u.0) as (λ a. g.number.0 == u.0 ≡ a → cond a (is_scope s g || meets s gs g.parent) (meets s gs (Some u)) ≡ true → s.0 ≤ u.0) [
      | true ↦ λ e k.
          let same : g.number.0 ≡ u.0 = eqb-true g.number.0 u.0 e in
          (elim (is_scope s g) as (λ b. is_scope s g ≡ b → b || meets s gs g.parent ≡ true → s.0 ≤ u.0) [
            | true ↦ λ q j. let it : g.number.0 ≡ s.0 = eqb-true g.number.0 s.0 q in omega arith
            | false ↦ λ q j. let low : s.0 < g.number.0 = met_below s g.number.0 gs g.parent f.1 j in omega arith
          ]) refl k
      | false ↦ λ e k. met_newer s g.number.0 gs u f.1 k
    ]) refl m

-- a walk that meets a scope meets first the one at which it starts
pub met_self : (r : ScopeId) (gs : List Scope) (u : ScopeId) → meets r gs (Some u) ≡ true → meets u gs (Some u) ≡ true
met_self r [] u m = m
met_self r (g ∷ gs) u m =
    (elim (g.number.0 == u.0) as (λ a. cond a (is_scope r g || meets r gs g.parent) (meets r gs (Some u)) ≡ true → cond a (a || meets u gs g.parent) (meets u gs (Some u)) ≡ true) [
      | true ↦ λ k. refl
      | false ↦ λ k. met_self r gs u k
    ]) m

-- what the older scopes do not meet
pub missed_later : (s : ScopeId) (n : ℕ) (g : Scope) (gs : List Scope) (u : ScopeId) → Falls n (g ∷ gs) → meets s (g ∷ gs) (Some u) ≡ false → meets s gs (Some u) ≡ false
missed_later s n g gs u f m =
    (elim (g.number.0 == u.0) as (λ a. g.number.0 == u.0 ≡ a → cond a (is_scope s g || meets s gs g.parent) (meets s gs (Some u)) ≡ false → meets s gs (Some u) ≡ false) [
      | true ↦ λ e k. false_from_ne_true (meets s gs (Some u)) (λ q.
          let low : u.0 < g.number.0 = met_start s g.number.0 gs u f.1 q in
          let same : g.number.0 ≡ u.0 = eqb-true g.number.0 u.0 e in
          absurd (omega arith))
      | false ↦ λ e k. k
    ]) refl m

opener_found : (ts : List Task) (g : Scope) (gs : List Scope) (o : TaskId) (x : Task) (w : Option TaskId) → g.opener ≡ w → opened_by o g ≡ true → find (is_task o) ts ≡ Some x → HasOpener ts g gs w → (s : ScopeId) → meets s gs g.parent ≡ true → list_any (λ k. is_scope s k && opened_by o k) gs ≡ false → meets s gs (Some x.under) ≡ true
opener_found ts g gs o x None e mine found h s m a = absurd (true≢false (sym mine ∙ rw e))
opener_found ts g gs o x (Some v) e mine found h s m a =
    let num : v.0 ≡ o.0 = eqb-true v.0 o.0 (rw e at mine) in
    let same : v ≡ o = ap (λ (n : ℕ). let q : TaskId = record { 0 = n } in q) num in
    let found2 : find (is_task v) ts ≡ Some x = subst (λ (w : TaskId). find (is_task w) ts ≡ Some x) (sym same) found in
    let task : h.task ≡ x = (let k = h.stands in cc) in
    subst (λ (w : Task). meets s gs (Some w.under) ≡ true) task (h.above s m (subst (λ (w : TaskId). list_any (λ k. is_scope s k && opened_by w k) gs ≡ false) (sym same) a))

-- where a task is not under s and s is none of its scopes, none of its scopes is below s
pub own_free : (ts : List Task) (n : ℕ) (gs : List Scope) (s : ScopeId) (o : TaskId) (x : Task) → Falls n gs → Opened ts gs → find (is_task o) ts ≡ Some x → meets s gs (Some x.under) ≡ false → list_any (λ k. is_scope s k && opened_by o k) gs ≡ false → Each (λ k. opened_by o k ≡ true → meets s gs (Some k.number) ≡ false) gs
own_free ts n [] s o x f h found free none = tt
own_free ts n (g ∷ gs) s o x f h found free none =
    let parts = or_parts (is_scope s g && opened_by o g) (list_any (λ k. is_scope s k && opened_by o k) gs) none in
    let free2 : meets s gs (Some x.under) ≡ false = missed_later s n g gs x.under f free in (
      λ mine.
          let apart : is_scope s g ≡ false = false_from_ne_true (is_scope s g) (λ e. true≢false (sym (ap (λ b. b && opened_by o g) e ∙ mine) ∙ parts.0)) in
          let up : meets s gs g.parent ≡ false = false_from_ne_true (meets s gs g.parent) (λ m. true≢false (sym (opener_found ts g gs o x g.opener refl mine found h.0 s m parts.1) ∙ free2)) in
          let head : meets s (g ∷ gs) (Some g.number) ≡ (is_scope s g || meets s gs g.parent) = rw (eq-eqb g.number.0 g.number.0 refl) in
          head ∙ or_from (is_scope s g) (meets s gs g.parent) apart up,
      each_more (λ k. (k.number.0 < g.number.0) × (opened_by o k ≡ true → meets s gs (Some k.number) ≡ false)) (λ k. opened_by o k ≡ true → meets s (g ∷ gs) (Some k.number) ≡ false) (λ k b mine. meets_skips s g gs k.number b.0 ∙ b.1 mine) gs
          (each_both (λ k. k.number.0 < g.number.0) (λ k. opened_by o k ≡ true → meets s gs (Some k.number) ≡ false) gs (each_below g.number.0 gs f.1) (own_free ts g.number.0 gs s o x f.1 h.1 found free2 parts.1)),
    )

pub found_low : (p : Scope → Bool) (n : ℕ) (gs : List Scope) (g : Scope) → Falls n gs → find p gs ≡ Some g → g.number.0 < n
found_low p n gs g f e = each_found (λ k. k.number.0 < n) p gs g (each_below n gs f) e

opener_both : (t o : TaskId) (g : Scope) → opened_by t g ≡ true → opened_by o g ≡ true → o.0 ≡ t.0
opener_both t o g a b = either g.opener refl a b where
  either : (w : Option TaskId) → g.opener ≡ w → (elim w as (λ _. Bool) [ Some x ↦ x.0 == t.0 | None ↦ false ]) ≡ true → (elim w as (λ _. Bool) [ Some x ↦ x.0 == o.0 | None ↦ false ]) ≡ true → o.0 ≡ t.0
  either None e a b = absurd (true≢false (sym a))
  either (Some x) e a b = sym (eqb-true x.0 o.0 b) ∙ eqb-true x.0 t.0 a

-- the opener of a scope is one task
pub one_opener : (n : ℕ) (gs : List Scope) (t o : TaskId) (g : Scope) → Falls n gs → find (opened_by t) gs ≡ Some g → list_any (λ k. is_scope g.number k && opened_by o k) gs ≡ true → o.0 ≡ t.0
one_opener n [] t o g f e a = absurd (true≢false (sym a))
one_opener n (k ∷ gs) t o g f e a =
    (elim (opened_by t k) as (λ b. opened_by t k ≡ b → cond b (Some k) (find (opened_by t) gs) ≡ Some g → o.0 ≡ t.0) [
      | true ↦ λ mine q.
          let same : k ≡ g = cc in
          let b : list_any (λ h. is_scope k.number h && opened_by o h) (k ∷ gs) ≡ true = subst (λ (v : Scope). list_any (λ h. is_scope v.number h && opened_by o h) (k ∷ gs) ≡ true) (sym same) a in
          let none : list_any (λ h. is_scope k.number h && opened_by o h) gs ≡ false = none_below (opened_by o) k.number k.number.0 gs f.1 (omega arith) in
          let his : opened_by o k ≡ true = true_from_ne_false (opened_by o k) (λ w. true≢false (sym b ∙ or_from (is_scope k.number k && opened_by o k) (list_any (λ h. is_scope k.number h && opened_by o h) gs) (rw (eq-eqb k.number.0 k.number.0 refl) w) none)) in
          opener_both t o k mine his
      | false ↦ λ mine q.
          let low : g.number.0 < k.number.0 = found_low (opened_by t) k.number.0 gs g f.1 q in
          let apart : is_scope g.number k ≡ false = ne_eqb k.number.0 g.number.0 (λ w. absurd (omega arith)) in
          let later : list_any (λ h. is_scope g.number h && opened_by o h) gs ≡ true = true_from_ne_false (list_any (λ h. is_scope g.number h && opened_by o h) gs) (λ w. true≢false (sym a ∙ or_from (is_scope g.number k && opened_by o k) (list_any (λ h. is_scope g.number h && opened_by o h) gs) (and_left (is_scope g.number k) (opened_by o k) apart) w)) in
          one_opener k.number.0 gs t o g f.1 q later
    ]) refl e

-- in a quiet scope no unstruck task is under it
pub free_of : (T : Tree) (s : ScopeId) (t : TaskId) (x : Task) → quiet T s ≡ true → task_of T t ≡ Some x → x.struck ≡ None → meets s T.scopes (Some x.under) ≡ false
free_of T s t x still found free =
    let all : Each (λ y. is_under T s y && is_none y.struck ≡ false) T.tasks = each_none (λ y. is_under T s y && is_none y.struck) T.tasks (not-true _ still) in
    let one : is_under T s x && is_none x.struck ≡ false = each_found (λ y. is_under T s y && is_none y.struck ≡ false) (is_task t) T.tasks x all found in
    sym (on_meets s T.scopes (Some x.under)) ∙ sym (and-true (is_under T s x)) ∙ sym (ap (λ o. is_under T s x && is_none o) free) ∙ one

-- the own scopes of an unstruck task stay at a release by another one
pub own_stays : (T : Tree) (t o : TaskId) (x : Task) (g : Scope) → Sound T → own_scope T t ≡ Some g → quiet T g.number ≡ true → task_of T o ≡ Some x → x.struck ≡ None → o.0 ≢ t.0 → Each (λ k. opened_by o k ≡ true → not (on_chain T g.number k.number) ≡ true) T.scopes
own_stays T t o x g h own still found free other =
    each_more (λ k. opened_by o k ≡ true → meets g.number T.scopes (Some k.number) ≡ false) (λ k. opened_by o k ≡ true → not (on_chain T g.number k.number) ≡ true)
    (λ k m mine. ap not (on_meets g.number T.scopes (Some k.number) ∙ m mine)) T.scopes
    (own_free T.tasks T.next_scope T.scopes g.number o x h.falls h.opened found (free_of T g.number o x still found free)
    (false_from_ne_true (list_any (λ k. is_scope g.number k && opened_by o k) T.scopes) (λ a. other (one_opener T.next_scope T.scopes t o g h.falls own a))))

-- look-ups of what a filter keeps
pub find_kept : {X : Type 0} (p q : X → Bool) (xs : List X) → Each (λ x. p x ≡ true → q x ≡ true) xs → find p (filter q xs) ≡ find p xs
find_kept p q [] h = refl
find_kept p q (x ∷ xs) h =
    (elim (p x) as (λ b. p x ≡ b → find p (cond (q x) (x ∷ filter q xs) (filter q xs)) ≡ cond b (Some x) (find p xs)) [
      | true ↦ λ e. rw (h.0 e, e) refl
      | false ↦ λ e. elim (q x) as (λ c. find p (cond c (x ∷ filter q xs) (filter q xs)) ≡ find p xs) [
        | true ↦ rw e (find_kept p q xs h.1)
        | false ↦ find_kept p q xs h.1
      ]
    ]) refl

-- what is found is there
pub any_found : {X : Type 0} (p : X → Bool) (xs : List X) (x : X) → find p xs ≡ Some x → list_any p xs ≡ true
any_found p [] x e = cc
any_found p (y ∷ ys) x e =
    (elim (p y) as (λ b. cond b (Some y) (find p ys) ≡ Some x → b || list_any p ys ≡ true) [
      | true ↦ λ k. refl
      | false ↦ λ k. any_found p ys x k
    ]) e

pub found_any : {X : Type 0} (p : X → Bool) (xs : List X) → list_any p xs ≡ true → (x : X) × (find p xs ≡ Some x)
found_any p [] e = absurd (true≢false (sym e))
found_any {X = X} p (y ∷ ys) e =
    (elim (p y) as (λ b. b || list_any p ys ≡ true → (x : X) × (cond b (Some y) (find p ys) ≡ Some x)) [
      | true ↦ λ k. (y, refl)
      | false ↦ λ k. found_any p ys k
    ]) e
