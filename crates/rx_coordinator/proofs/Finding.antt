-- Look-ups in changed lists.
use Rattle.std.proofs.Common.{◌≡◌, ◌≢◌, ℕ, ◌<◌, ◌==◌, Bool, true, false, cond, not, filter, List, [], ◌∷◌, Option, Some, None, refl, ap, ◌∙◌, sym, arith}
use Rattle.std.specs.List.{find}
use Rattle.std.proofs.lemmas.Bool.{eqb-true, eq-eqb, ne_eqb}
use Rattle.rx_rules.proofs.Common.{TaskId, is_task, is_scope}
use Rattle.rx_rules.specs.declared.tasks.Task.{Task}
use Rattle.rx_rules.specs.declared.tasks.Scope.{Scope}
use Rattle.rx_tree_laws.specs.Chains.{Falls}
use Rattle.rx_tree_laws.proofs.Below.{found_low}

-- and so where the tasks of a number are left out
pub other_left : (u t : TaskId) → t.0 ≢ u.0 → (xs : List Task) → find (is_task t) (filter (λ y. not (is_task u y)) xs) ≡ find (is_task t) xs
other_left u t apart [] = refl
other_left u t apart (x ∷ xs) =
    (elim (is_task u x) as (λ b. is_task u x ≡ b → find (is_task t) (cond (not b) (x ∷ filter (λ y. not (is_task u y)) xs) (filter (λ y. not (is_task u y)) xs)) ≡ find (is_task t) (x ∷ xs)) [
      | true ↦ λ w.
          let is : x.number.0 ≡ u.0 = eqb-true x.number.0 u.0 w in
          let off : is_task t x ≡ false = ne_eqb x.number.0 t.0 (λ e. apart (sym e ∙ is)) in
          other_left u t apart xs ∙ sym (ap (λ (b : Bool). cond b (Some x) (find (is_task t) xs)) off)
      | false ↦ λ w. ap (λ (o : Option Task). cond (is_task t x) (Some x) o) (other_left u t apart xs)
    ]) refl

-- who has left is not found
pub none_left : (u : TaskId) → (xs : List Task) → find (is_task u) (filter (λ y. not (is_task u y)) xs) ≡ None
none_left u [] = refl
none_left u (x ∷ xs) =
    (elim (is_task u x) as (λ b. is_task u x ≡ b → find (is_task u) (cond (not b) (x ∷ filter (λ y. not (is_task u y)) xs) (filter (λ y. not (is_task u y)) xs)) ≡ None) [
      | true ↦ λ w. none_left u xs
      | false ↦ λ w. ap (λ (b : Bool). cond b (Some x) (find (is_task u) (filter (λ y. not (is_task u y)) xs))) w ∙ none_left u xs
    ]) refl

-- the first scope that passes is the scope of its number
pub scope_found : (p : Scope → Bool) (n : ℕ) (gs : List Scope) (g : Scope) → Falls n gs → find p gs ≡ Some g → find (is_scope g.number) gs ≡ Some g
scope_found p n [] g falls e = absurd (let v : ⊥ = cc in v)
scope_found p n (k ∷ ks) g falls e =
    (elim (p k) as (λ b. cond b (Some k) (find p ks) ≡ Some g → find (is_scope g.number) (k ∷ ks) ≡ Some g) [
      | true ↦ λ j.
          let same : k ≡ g = cc in
          let it : (k.number.0 == g.number.0) ≡ true = eq-eqb k.number.0 g.number.0 (ap (λ (z : Scope). z.number.0) same) in
          ap (λ (b : Bool). cond b (Some k) (find (is_scope g.number) ks)) it ∙ ap (λ (z : Scope). Some z) same
      | false ↦ λ j.
          let low : g.number.0 < k.number.0 = found_low p k.number.0 ks g falls.1 j in
          let off : (k.number.0 == g.number.0) ≡ false = ne_eqb k.number.0 g.number.0 (λ w. absurd (omega (arith, low, w))) in
          ap (λ (b : Bool). cond b (Some k) (find (is_scope g.number) ks)) off ∙ scope_found p k.number.0 ks g falls.1 j
    ]) e

-- the first that passes is the first of those that pass
pub first_passes : {X : Type 0} (p : X → Bool) (xs ys : List X) (x y : X) → find p xs ≡ Some x → filter p xs ≡ y ∷ ys → x ≡ y
first_passes p [] ys x y e f = absurd (let v : ⊥ = cc in v)
first_passes p (z ∷ zs) ys x y e f =
    (elim (p z) as (λ b. cond b (Some z) (find p zs) ≡ Some x → cond b (z ∷ filter p zs) (filter p zs) ≡ y ∷ ys → x ≡ y) [
      | true ↦ λ j k. (let a : z ≡ x = cc in let b : z ≡ y = cc in sym a ∙ b)
      | false ↦ λ j k. first_passes p zs ys x y j k
    ]) e f
