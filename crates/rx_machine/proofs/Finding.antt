-- What is found in a list of which one element was changed, added or taken out.
use Rattle.std.proofs.Common.{◌≡◌, ◌≢◌, ◌⊎◌, ℕ, zero, suc, ◌<◌, Bool, true, false, cond, not, ◌==◌, List, [], ◌∷◌, ◌++◌, length, map, filter, Some, None, option_map, slice_get, slice_set, refl, ap, arith, inl, inr}
use Rattle.std.specs.List.{find}
use Rattle.std.proofs.lemmas.Bool.{eqb-true, eq-eqb}
use Rattle.rx_rules.proofs.Common.{change_first}

-- a test that the changed element does not pass finds what it found
pub find_other : {X : Type 0} (p q : X → Bool) (f : X → X) (xs : List X) → ((x : X) → q x ≡ true → p x ≡ false) → ((x : X) → p (f x) ≡ p x) → find p (change_first q f xs) ≡ find p xs
find_other p q f [] apart same = refl
find_other p q f (x ∷ xs) apart same =
    (elim (q x) as (λ b. q x ≡ b → find p (cond b (f x ∷ xs) (x ∷ change_first q f xs)) ≡ find p (x ∷ xs)) [
      | true ↦ λ e. rw (same x, apart x e) refl
      | false ↦ λ e. elim (p x) as (λ b. cond b (Some x) (find p (change_first q f xs)) ≡ cond b (Some x) (find p xs)) [ true ↦ refl | false ↦ find_other p q f xs apart same ]
    ]) refl

-- the changed element is found where it was
pub find_same : {X : Type 0} (q : X → Bool) (f : X → X) (xs : List X) (x : X) → ((y : X) → q (f y) ≡ q y) → find q xs ≡ Some x → find q (change_first q f xs) ≡ Some (f x)
find_same q f [] x same h = cc
find_same q f (y ∷ ys) x same h =
    (elim (q y) as (λ b. q y ≡ b → cond b (Some y) (find q ys) ≡ Some x → find q (cond b (f y ∷ ys) (y ∷ change_first q f ys)) ≡ Some (f x)) [
      | true ↦ λ e a. rw (same y, e) (ap (option_map f) a)
      | false ↦ λ e a. rw e (find_same q f ys x same a)
    ]) refl h

-- what is taken out is not found
pub find_none : {X : Type 0} (q : X → Bool) (xs : List X) → find q (filter (λ x. not (q x)) xs) ≡ None
find_none q [] = refl
find_none q (x ∷ xs) =
    (elim (q x) as (λ b. q x ≡ b → find q (cond (not b) (x ∷ filter (λ x. not (q x)) xs) (filter (λ x. not (q x)) xs)) ≡ None) [
      | true ↦ λ e. find_none q xs
      | false ↦ λ e. rw e (find_none q xs)
    ]) refl

-- and what was not taken out is found as before
pub find_left : {X : Type 0} (p r : X → Bool) (xs : List X) → ((x : X) → p x ≡ true → r x ≡ true) → find p (filter r xs) ≡ find p xs
find_left p r [] keeps = refl
find_left p r (x ∷ xs) keeps =
    (elim (p x) as (λ b. p x ≡ b → find p (cond (r x) (x ∷ filter r xs) (filter r xs)) ≡ cond b (Some x) (find p xs)) [
      | true ↦ λ e. rw (keeps x e, e) refl
      | false ↦ λ e. elim (r x) as (λ c. find p (cond c (x ∷ filter r xs) (filter r xs)) ≡ find p xs) [ true ↦ rw e (find_left p r xs keeps) | false ↦ find_left p r xs keeps ]
    ]) refl

-- a change of every element that no test sees
pub find_mapped : {X : Type 0} (p : X → Bool) (f : X → X) (xs : List X) → ((x : X) → p (f x) ≡ p x) → find p (map f xs) ≡ option_map f (find p xs)
find_mapped p f [] same = refl
find_mapped p f (x ∷ xs) same = rw (same x) (elim (p x) as (λ b. cond b (Some (f x)) (find p (map f xs)) ≡ option_map f (cond b (Some x) (find p xs))) [ true ↦ refl | false ↦ find_mapped p f xs same ])

-- Elements by their position.

pub get_other : {X : Type 0} (xs : List X) (n m : ℕ) (y : X) → m ≢ n → slice_get (slice_set xs n y) m ≡ slice_get xs m
get_other [] n m y h = refl
get_other (v ∷ xs) zero zero y h = absurd (h refl)
get_other (v ∷ xs) zero (suc m) y h = refl
get_other (v ∷ xs) (suc n) zero y h = refl
get_other (v ∷ xs) (suc n) (suc m) y h = get_other xs n m y (λ e. h (ap suc e))

pub get_before : {X : Type 0} (xs : List X) (y : X) (n : ℕ) → n ≢ length xs → slice_get (xs ++ y ∷ []) n ≡ slice_get xs n
get_before [] y zero h = absurd (h refl)
get_before [] y (suc n) h = refl
get_before (x ∷ xs) y zero h = refl
get_before (x ∷ xs) y (suc n) h = get_before xs y n (λ e. h (ap suc e))

-- two numbers are equal or not
pub same_or_not : (n i : ℕ) → (n ≡ i) ⊎ (n ≢ i)
same_or_not n i =
    (elim (n == i) as (λ b. (n == i) ≡ b → (n ≡ i) ⊎ (n ≢ i)) [
      | true ↦ λ e. inl (eqb-true n i e)
      | false ↦ λ e. inr (λ s. absurd (let t : (n == i) ≡ true = eq-eqb n i s in let f : ⊥ = cc in f))
    ]) refl

pub set_before : {X : Type 0} (xs : List X) (z : X) (n : ℕ) (y : X) → n < length xs → slice_set (xs ++ z ∷ []) n y ≡ slice_set xs n y ++ z ∷ []
set_before [] z n y h = absurd (omega arith)
set_before (x ∷ xs) z zero y h = refl
set_before (x ∷ xs) z (suc n) y h = let inside : n < length xs = omega arith in ap (λ v. x ∷ v) (set_before xs z n y inside)
