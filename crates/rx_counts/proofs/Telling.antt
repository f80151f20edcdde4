-- What the counts of a scope and the place of a caller tell.
use Rattle.std.proofs.Common.{◌≡◌, ℕ, ◌<◌, Bool, true, false, cond, ◌||◌, ◌&&◌, ◌==◌, List, [], ◌∷◌, Option, Some, None, is_none, slice_index_or, refl, sym, ap, ◌∙◌, subst, arith}
use Rattle.std.specs.List.{find, list_any}
use Rattle.std.proofs.lemmas.Bool.{eqb-true, eq-eqb, ne_eqb, true≢false, or_right, or_left, and_from, not-true}
use Rattle.std.proofs.Math.Bool.{and-false, and-true, or-false}
use Rattle.rx_tree_laws.proofs.Below.{found_low}
use Rattle.rx_rules.proofs.Common.{PlaceId, TaskId, ScopeId, Tree, is_task, is_scope, wants, opened_by, is_under, quiet}
use Rattle.rx_rules.specs.declared.tasks.Where.{Where}
use Rattle.rx_rules.specs.declared.tasks.Where.TheVariants.{At, Travel}
use Rattle.rx_rules.specs.declared.tasks.Blow.{Blow}
use Rattle.rx_rules.specs.declared.tasks.Task.{Task}
use Rattle.rx_rules.specs.declared.tasks.Scope.{Scope}
use Rattle.rx_tree_laws.specs.Blows.{death_blow, blow_at}
use Rattle.rx_tree_laws.specs.Chains.{meets, Falls}
use Rattle.rx_counts.specs.Keeping.{stands_home, keeper, is_number, kept_at, same_where, total_of}
use Rattle.rx_tree_laws.specs.Sound.{Each, TaskFits, Sound}
use Rattle.rx_tree_laws.proofs.Changes.{each_found, each_more}
use Rattle.rx_counts.proofs.Counting.{count_none, none_counted}
use Rattle.rx_counts.proofs.Below.{HomesLive}
use Rattle.rx_tree_laws.proofs.Releasing.{on_meets, each_none, none_below}

-- Homes.

pub blow_none : (dead : List (Option ℕ)) (p : PlaceId) → is_none (slice_index_or dead p.0 None) ≡ true → death_blow dead p ≡ None
blow_none dead p e = (elim (slice_index_or dead p.0 None) as (λ o. is_none o ≡ true → (elim o as (λ _. Option Blow) [ Some n ↦ Some (record { place = p; entry = n }) | None ↦ None ]) ≡ None) [ Some n ↦ λ k. absurd (true≢false (sym k)) | None ↦ λ k. refl ]) e

pub none_blow : (dead : List (Option ℕ)) (p : PlaceId) → death_blow dead p ≡ None → is_none (slice_index_or dead p.0 None) ≡ true
none_blow dead p e = (elim (slice_index_or dead p.0 None) as (λ o. (elim o as (λ _. Option Blow) [ Some n ↦ Some (record { place = p; entry = n }) | None ↦ None ]) ≡ None → is_none o ≡ true) [ Some n ↦ λ k. cc | None ↦ λ k. refl ]) e

pub homes_live : (T : Tree) → Sound T → HomesLive T.tasks (stands_home T.dead)
homes_live T h t x g found keeps at = (each_found (TaskFits T.dead T.places T.scopes) (is_task t) T.tasks x h.tasks found).struck ∙ ap (blow_at T.dead) at ∙ blow_none T.dead g.home keeps

-- Places.

pub same_self : (w : Where) → same_where w w ≡ true
same_self (At p) = eq-eqb p.0 p.0 refl
same_self (Travel p r) = and_from (p.0 == p.0) (r.0 == r.0) (eq-eqb p.0 p.0 refl) (eq-eqb r.0 r.0 refl)

-- a keeper is on the chain
pub keeper_meets : (keeps : Scope → Bool) (s : ScopeId) (gs : List Scope) (want : Option ScopeId) → is_number s.0 (keeper keeps gs want) ≡ true → meets s gs want ≡ true
keeper_meets keeps s [] want e = absurd (true≢false (sym e))
keeper_meets keeps s (g ∷ gs) want e =
    (elim (wants want g) as (λ a. is_number s.0 (cond a (cond (keeps g) (Some g.number.0) (keeper keeps gs g.parent)) (keeper keeps gs want)) ≡ true → cond a (is_scope s g || meets s gs g.parent) (meets s gs want) ≡ true) [
      | true ↦ λ e2.
          (elim (keeps g) as (λ b. is_number s.0 (cond b (Some g.number.0) (keeper keeps gs g.parent)) ≡ true → is_scope s g || meets s gs g.parent ≡ true) [
            | true ↦ λ e3. or_left (is_scope s g) (meets s gs g.parent) e3
            | false ↦ λ e3. or_right (is_scope s g) (meets s gs g.parent) (keeper_meets keeps s gs g.parent e3)
          ]) e2
      | false ↦ λ e2. keeper_meets keeps s gs want e2
    ]) e

-- Where a scope is quiet its counts are 0.

quiet_zero : (u f k : Bool) → (k ≡ true → u ≡ true) → u && f ≡ false → f && k ≡ false
quiet_zero u false k h e = refl
quiet_zero u true true h e = absurd (true≢false (sym (h refl) ∙ sym (and-true u) ∙ e))
quiet_zero u true false h e = refl

pub quiet_total : (T : Tree) (s : ScopeId) (keeps : Scope → Bool) → quiet T s ≡ true → total_of keeps T.scopes T.tasks s.0 ≡ 0
quiet_total T s keeps still =
    count_none (λ x. is_none x.struck && kept_at keeps T.scopes s.0 x) T.tasks
    (each_more (λ x. is_under T s x && is_none x.struck ≡ false) (λ x. is_none x.struck && kept_at keeps T.scopes s.0 x ≡ false)
    (λ (x : Task) e. quiet_zero (is_under T s x) (is_none x.struck) (kept_at keeps T.scopes s.0 x) (λ k. on_meets s T.scopes (Some x.under) ∙ keeper_meets keeps s T.scopes (Some x.under) k) e)
    T.tasks (each_none (λ x. is_under T s x && is_none x.struck) T.tasks (not-true _ still)))

-- And where its counts are 0, and it keeps counts and is the last of its opener, it is quiet.

free_here : (f k : Bool) → f && k ≡ false → f ≡ true → k ≡ false
free_here true k e a = e
free_here false k e a = absurd (true≢false (sym a))

pub none_at : (T : Tree) (s : ScopeId) → total_of (stands_home T.dead) T.scopes T.tasks s.0 ≡ 0 → (t : TaskId) (x : Task) → find (is_task t) T.tasks ≡ Some x → x.struck ≡ None → keeper (stands_home T.dead) T.scopes (Some x.under) ≡ Some s.0 → ⊥
none_at T s zero t x found free e =
    let all : Each (λ y. is_none y.struck && kept_at (stands_home T.dead) T.scopes s.0 y ≡ false) T.tasks = none_counted (λ y. is_none y.struck && kept_at (stands_home T.dead) T.scopes s.0 y) T.tasks zero in
    let none : is_none x.struck && kept_at (stands_home T.dead) T.scopes s.0 x ≡ false = each_found (λ y. is_none y.struck && kept_at (stands_home T.dead) T.scopes s.0 y ≡ false) (is_task t) T.tasks x all found in
    true≢false (sym (ap (is_number s.0) e ∙ eq-eqb s.0 s.0 refl) ∙ free_here (is_none x.struck) (kept_at (stands_home T.dead) T.scopes s.0 x) none (ap is_none free))

-- One scope has a number.

pub one_number : (p : Scope → Bool) (n : ℕ) (gs : List Scope) (s : ScopeId) (g : Scope) → Falls n gs → find (is_scope s) gs ≡ Some g → list_any (λ h. is_scope s h && p h) gs ≡ p g
one_number p n [] s g f e = cc
one_number p n (h ∷ hs) s g f e =
    (elim (is_scope s h) as (λ b. is_scope s h ≡ b → cond b (Some h) (find (is_scope s) hs) ≡ Some g → (b && p h) || list_any (λ k. is_scope s k && p k) hs ≡ p g) [
      | true ↦ λ q k.
          let same : h ≡ g = cc in
          let num : h.number.0 ≡ s.0 = eqb-true h.number.0 s.0 q in
          ap (λ b. p h || b) (none_below p s h.number.0 hs f.1 (omega arith)) ∙ or-false (p h) ∙ ap p same
      | false ↦ λ q k. one_number p h.number.0 hs s g f.1 k
    ]) refl e

pub last_number : (t : TaskId) (n : ℕ) (gs : List Scope) (g : Scope) → Falls n gs → find (opened_by t) gs ≡ Some g → find (is_scope g.number) gs ≡ Some g
last_number t n [] g f e = cc
last_number t n (h ∷ hs) g f e =
    (elim (opened_by t h) as (λ b. cond b (Some h) (find (opened_by t) hs) ≡ Some g → find (is_scope g.number) (h ∷ hs) ≡ Some g) [
      | true ↦ λ k. let same : h ≡ g = cc in subst (λ (v : Scope). find (is_scope v.number) (h ∷ hs) ≡ Some v) same (rw (eq-eqb h.number.0 h.number.0 refl))
      | false ↦ λ k.
          let low : g.number.0 < h.number.0 = found_low (opened_by t) h.number.0 hs g f.1 k in
          let apart : h.number.0 == g.number.0 ≡ false = ne_eqb h.number.0 g.number.0 (λ q. absurd (omega arith)) in
          rw apart (last_number t h.number.0 hs g f.1 k)
    ]) e

-- An opener is at the home of its last scope.

pub same_opener : (g : Scope) (o t : TaskId) → opened_by o g ≡ true → opened_by t g ≡ true → o ≡ t
same_opener g o t a b =
    (elim g.opener as (λ r. (elim r as (λ _. Bool) [ Some y ↦ y.0 == o.0 | None ↦ false ]) ≡ true → (elim r as (λ _. Bool) [ Some y ↦ y.0 == t.0 | None ↦ false ]) ≡ true → o ≡ t) [
      | Some y ↦ λ c d. ap (λ (n : ℕ). let q : TaskId = record { 0 = n } in q) (sym (eqb-true y.0 o.0 c) ∙ eqb-true y.0 t.0 d)
      | None ↦ λ c d. absurd (true≢false (sym c))
    ]) a b

pub none_from : (o : Option Blow) (u : Bool) → (o ≡ None → u ≡ true → ⊥) → u && is_none o ≡ false
none_from None true k = absurd (k refl refl)
none_from None false k = refl
none_from (Some b) u k = and-false u
