-- The unstruck task with the greatest number is enabled.
use Rattle.std.proofs.Common.{◌≡◌, ℕ, ◌<◌, ◌≤◌, Bool, true, false, cond, not, ◌||◌, ◌&&◌, List, [], ◌∷◌, filter, reverse, length, Some, None, is_none, refl, sym, ap, ◌∙◌, subst, arith}
use Rattle.std.specs.List.{find, list_any}
use Rattle.std.proofs.lemmas.Bool.{true≢false, and_parts, or_from, false_from_ne_true}
use Rattle.std.proofs.lemmas.List.{length-reverse}
use Rattle.rx_base.proofs.Options.{none-from}
use Rattle.rx_base.proofs.Elements.{empty-from, find-passes}
use Rattle.rx_rules.proofs.Common.{Tree, is_task, is_scope, opened_by, own_scope, is_under, quiet, inner, the_root, is_enabled}
use Rattle.rx_rules.specs.declared.tasks.Task.{Task}
use Rattle.rx_rules.specs.declared.tasks.Scope.{Scope}
use Rattle.rx_tree_laws.specs.Sound.{Each, TasksFall, Sound}
use Rattle.rx_tree_laws.specs.Enabling.{GreatestEnabled, IdleIsQuiet}
use Rattle.rx_tree_laws.proofs.Changes.{each_found, each_more}
use Rattle.rx_tree_laws.proofs.Releasing.{each_both, on_meets}
use Rattle.rx_tree_laws.proofs.Reached.{sound}
use Rattle.rx_tree_laws.proofs.Waiting.{Younger, Apt, apt, each_stands, tasks_below, found_own, waiter_owns}

pub any_none : {X : Type 0} (p : X → Bool) (xs : List X) → Each (λ x. p x ≡ false) xs → list_any p xs ≡ false
any_none p [] h = refl
any_none p (x ∷ xs) h = or_from (p x) (list_any p xs) h.0 (any_none p xs h.1)

-- the first that passes has the greatest number
first_greatest : (p : Task → Bool) (n : ℕ) (ts : List Task) (x : Task) → TasksFall n ts → find p ts ≡ Some x → Each (λ y. p y ≡ true → y.number.0 ≤ x.number.0) ts
first_greatest p n [] x f e = tt
first_greatest p n (y ∷ ys) x f e =
    (elim (p y) as (λ b. p y ≡ b → cond b (Some y) (find p ys) ≡ Some x → Each (λ z. p z ≡ true → z.number.0 ≤ x.number.0) (y ∷ ys)) [
      | true ↦ λ w k.
          let same : y ≡ x = cc in
          subst (λ (v : Task). Each (λ z. p z ≡ true → z.number.0 ≤ v.number.0) (y ∷ ys)) same
          ((λ u. omega arith), each_more (λ z. z.number.0 < y.number.0) (λ z. p z ≡ true → z.number.0 ≤ y.number.0) (λ (z : Task) low u. omega (arith, low)) ys (tasks_below y.number.0 ys f.1))
      | false ↦ λ w k. ((λ u. absurd (true≢false (sym u ∙ w))), first_greatest p y.number.0 ys x f.1 k)
    ]) refl e

pub inner_is : (T : Tree) (x : Task) (g : Scope) → own_scope T x.number ≡ Some g → inner T x ≡ g.number
inner_is T x g e = rw (e, inner) refl

quiet_at_own : (T : Tree) (x : Task) (g : Scope) → Sound T → Apt T → find (λ y. is_none y.struck) T.tasks ≡ Some x → own_scope T x.number ≡ Some g → find (is_task x.number) T.tasks ≡ Some x → quiet T g.number ≡ true
quiet_at_own T x g h a first own stands =
    let found : list_any (λ k. is_scope g.number k && opened_by x.number k) T.scopes ≡ true = found_own x.number T.scopes g own in
    ap not
    (any_none (λ y. is_under T g.number y && is_none y.struck) T.tasks
    (each_more (λ y. (is_none y.struck ≡ true → y.number.0 ≤ x.number.0) × Younger T.scopes y) (λ y. is_under T g.number y && is_none y.struck ≡ false)
    (λ (y : Task) b.
    false_from_ne_true (is_under T g.number y && is_none y.struck) (λ e.
    let both = and_parts (is_under T g.number y) (is_none y.struck) e in
    let high : y.number.0 ≤ x.number.0 = b.0 both.1 in
    let low : x.number.0 < y.number.0 = b.1 g.number x.number (sym (on_meets g.number T.scopes (Some y.under)) ∙ both.0) found in
    absurd (omega arith)))
    T.tasks (each_both (λ y. is_none y.struck ≡ true → y.number.0 ≤ x.number.0) (Younger T.scopes) T.tasks (first_greatest (λ y. is_none y.struck) T.next_task T.tasks x h.tasks_fall first) a.younger)))

stands_itself : (p : Task → Bool) (ts : List Task) (x : Task) → Each (λ y. find (is_task y.number) ts ≡ Some y) ts → find p ts ≡ Some x → find (is_task x.number) ts ≡ Some x
stands_itself p ts x h e = each_found (λ y. find (is_task y.number) ts ≡ Some y) p ts x h e

pub greatest_enabled : GreatestEnabled
greatest_enabled T x r first =
    let h : Sound T = sound r in
    let a : Apt T = apt r in
    let free : is_none x.struck ≡ true = find-passes (λ y. is_none y.struck) T.tasks x first in
    let stands : find (is_task x.number) T.tasks ≡ Some x = stands_itself (λ y. is_none y.struck) T.tasks x (each_stands T.next_task T.tasks h.tasks_fall) first in
    ap (λ b. b && (not x.waits || quiet T (inner T x))) free
    ∙ ((elim x.waits as (λ b. x.waits ≡ b → not b || quiet T (inner T x) ≡ true) [
      | true ↦ λ w.
          let own = waiter_owns T x.number x r stands (none-from x.struck free) w in
          ap (quiet T) (inner_is T x own.0 own.1) ∙ quiet_at_own T x own.0 h a first own.1 stands
      | false ↦ λ w. refl
    ]) refl)

-- what passes among the elements is in the filtered list
kept_one : {X : Type 0} (p q : X → Bool) (xs : List X) (x : X) → find p xs ≡ Some x → q x ≡ true → filter q xs ≡ [] → ⊥
kept_one p q [] x e k h = cc
kept_one p q (y ∷ ys) x e k h =
    (elim (p y) as (λ b. cond b (Some y) (find p ys) ≡ Some x → cond (q y) (y ∷ filter q ys) (filter q ys) ≡ [] → ⊥) [
      | true ↦ λ w. let same : y ≡ x = cc in let it : q y ≡ true = ap q same ∙ k in rw it (λ v. cc)
      | false ↦ λ w. elim (q y) as (λ c. cond c (y ∷ filter q ys) (filter q ys) ≡ [] → ⊥) [ true ↦ λ v. cc | false ↦ λ v. kept_one p q ys x w k v ]
    ]) e h

unreversed : {X : Type 0} (xs : List X) → reverse xs ≡ [] → xs ≡ []
unreversed xs e = empty-from xs (sym (length-reverse xs) ∙ ap length e)

none_found : {X : Type 0} (p : X → Bool) (xs : List X) → find p xs ≡ None → Each (λ x. p x ≡ false) xs
none_found p [] e = tt
none_found p (x ∷ xs) e =
    (elim (p x) as (λ b. p x ≡ b → cond b (Some x) (find p xs) ≡ None → Each (λ y. p y ≡ false) (x ∷ xs)) [
      | true ↦ λ w k. cc
      | false ↦ λ w k. (w, none_found p xs k)
    ]) refl e

and_off : (a b : Bool) → b ≡ false → a && b ≡ false
and_off true b e = e
and_off false b e = refl

pub none_left : IdleIsQuiet
none_left T r e =
    (elim (find (λ y. is_none y.struck) T.tasks) as (λ o. find (λ y. is_none y.struck) T.tasks ≡ o → quiet T the_root ≡ true) [
      | Some x ↦ λ k. absurd (kept_one (λ y. is_none y.struck) (is_enabled T) T.tasks x k (greatest_enabled T x r k) (unreversed (filter (is_enabled T) T.tasks) e))
      | None ↦ λ k.
          ap not (any_none (λ y. is_under T the_root y && is_none y.struck) T.tasks
          (each_more (λ y. is_none y.struck ≡ false) (λ y. is_under T the_root y && is_none y.struck ≡ false) (λ y b. and_off (is_under T the_root y) (is_none y.struck) b) T.tasks (none_found (λ y. is_none y.struck) T.tasks k)))
    ]) refl
