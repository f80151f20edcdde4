-- Look-ups after changes.
use Rattle.std.proofs.Common.{◌≡◌, Bool, true, false, cond, List, [], ◌∷◌, Some, filter, map, refl, subst}
use Rattle.std.specs.List.{find}
use Rattle.rx_rules.proofs.Common.{change_first}
use Rattle.rx_tree_laws.specs.Sound.{Each}

pub each_found : {X : Type 0} (P : X → Type 0) (p : X → Bool) (xs : List X) (x : X) → Each P xs → find p xs ≡ Some x → P x
each_found P p [] x h e = cc
each_found P p (y ∷ ys) x h e =
    (elim (p y) as (λ b. cond b (Some y) (find p ys) ≡ Some x → P x) [
      | true ↦ λ k. let same : y ≡ x = cc in subst P same h.0
      | false ↦ λ k. each_found P p ys x h.1 k
    ]) e

pub each_more : {X : Type 0} (P Q : X → Type 0) → ((x : X) → P x → Q x) → (xs : List X) → Each P xs → Each Q xs
each_more P Q f [] h = tt
each_more P Q f (x ∷ xs) h = (f x h.0, each_more P Q f xs h.1)

pub each_map : {X Y : Type 0} (P : X → Type 0) (Q : Y → Type 0) (f : X → Y) → ((x : X) → P x → Q (f x)) → (xs : List X) → Each P xs → Each Q (map f xs)
each_map P Q f k [] h = tt
each_map P Q f k (x ∷ xs) h = (k x h.0, each_map P Q f k xs h.1)

pub each_change : {X : Type 0} (P : X → Type 0) (p : X → Bool) (f : X → X) → (xs : List X) → ((x : X) → find p xs ≡ Some x → P x → P (f x)) → Each P xs → Each P (change_first p f xs)
each_change P p f [] k h = tt
each_change P p f (x ∷ xs) k h =
    (elim (p x) as (λ b. ((y : _) → cond b (Some x) (find p xs) ≡ Some y → P y → P (f y)) → Each P (cond b (f x ∷ xs) (x ∷ change_first p f xs))) [
      | true ↦ λ k2. (k2 x refl h.0, h.1)
      | false ↦ λ k2. (h.0, each_change P p f xs k2 h.1)
    ]) k

pub each_filter : {X : Type 0} (P : X → Type 0) (p : X → Bool) (xs : List X) → Each P xs → Each P (filter p xs)
each_filter P p [] h = tt
each_filter P p (x ∷ xs) h =
    elim (p x) as (λ b. Each P (cond b (x ∷ filter p xs) (filter p xs))) [
      | true ↦ (h.0, each_filter P p xs h.1)
      | false ↦ each_filter P p xs h.1
    ]
