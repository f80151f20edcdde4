-- Counting the elements that pass a test, and sums over them.
use Rattle.std.proofs.Common.{◌≡◌, ℕ, ◌≤◌, ◌+◌, Bool, true, false, cond, ◌||◌, List, [], ◌∷◌, Some, filter, map, count_by, sum_by, refl, ap, ◌∙◌, sym, arith, ltb}
use Rattle.std.specs.List.{find, list_any}
use Rattle.std.proofs.lemmas.Bool.{lt-ltb}
use Rattle.std.proofs.lemmas.List.Sums.{sum_by-cons}
use Rattle.rx_rules.proofs.Common.{change_first}
use Rattle.rx_tree_laws.specs.Sound.{Each}

-- one or none
abbrev pub one : Bool → ℕ
one b = cond b 1 0

pub count_cons : {X : Type 0} (p : X → Bool) (x : X) (xs : List X) → count_by p (x ∷ xs) ≡ one (p x) + count_by p xs
count_cons p x xs = sum_by-cons (λ y. cond (p y) 1 0) x xs

-- a change of the first that passes changes the count by its part
pub count_change : {X : Type 0} (p q : X → Bool) (f : X → X) (xs : List X) (x : X) → find q xs ≡ Some x → count_by p (change_first q f xs) + one (p x) ≡ count_by p xs + one (p (f x))
count_change p q f [] x e = cc
count_change p q f (y ∷ ys) x e =
    (elim (q y) as (λ b. cond b (Some y) (find q ys) ≡ Some x → count_by p (cond b (f y ∷ ys) (y ∷ change_first q f ys)) + one (p x) ≡ count_by p (y ∷ ys) + one (p (f x))) [
      | true ↦ λ k.
          let same : y ≡ x = cc in
          let a = count_cons p (f y) ys in
          let b = count_cons p y ys in
          let c = ap (λ v. one (p (f v))) same in
          let d = ap (λ v. one (p v)) same in
          omega arith
      | false ↦ λ k.
          let a = count_cons p y (change_first q f ys) in
          let b = count_cons p y ys in
          let c = count_change p q f ys x k in
          omega arith
    ]) e

-- counts by tests that agree
pub count_same : {X : Type 0} (p q : X → Bool) (xs : List X) → Each (λ x. p x ≡ q x) xs → count_by p xs ≡ count_by q xs
count_same p q [] h = refl
count_same p q (x ∷ xs) h =
    let a = count_cons p x xs in
    let b = count_cons q x xs in
    let c = count_same p q xs h.1 in
    let d = ap one h.0 in
    omega arith

-- where p is the one or the other of q and r, which never hold both
pub count_split : {X : Type 0} (p q r : X → Bool) (xs : List X) → Each (λ x. one (p x) ≡ one (q x) + one (r x)) xs → count_by p xs ≡ count_by q xs + count_by r xs
count_split p q r [] h = refl
count_split p q r (x ∷ xs) h =
    let a = count_cons p x xs in
    let b = count_cons q x xs in
    let c = count_cons r x xs in
    let d = count_split p q r xs h.1 in
    let e = h.0 in
    omega arith

-- nothing passes
pub count_none : {X : Type 0} (p : X → Bool) (xs : List X) → Each (λ x. p x ≡ false) xs → count_by p xs ≡ 0
count_none p [] h = refl
count_none p (x ∷ xs) h = let a = count_cons p x xs in let b = ap one h.0 in let c = count_none p xs h.1 in omega arith

pub none_counted : {X : Type 0} (p : X → Bool) (xs : List X) → count_by p xs ≡ 0 → Each (λ x. p x ≡ false) xs
none_counted p [] h = tt
none_counted p (x ∷ xs) h =
    let a = count_cons p x xs in (
      (elim (p x) as (λ b. count_by p (x ∷ xs) ≡ one b + count_by p xs → b ≡ false) [
        | true ↦ λ k. absurd (omega arith)
        | false ↦ λ k. refl
      ]) a,
      none_counted p xs (omega arith),
    )

-- removing what passes q
pub count_filter : {X : Type 0} (p q : X → Bool) (xs : List X) → Each (λ x. q x ≡ false → p x ≡ false) xs → count_by p (filter q xs) ≡ count_by p xs
count_filter p q [] h = refl
count_filter p q (x ∷ xs) h =
    let b = count_cons p x xs in
    let c = count_filter p q xs h.1 in
    (elim (q x) as (λ v. q x ≡ v → count_by p (cond v (x ∷ filter q xs) (filter q xs)) ≡ count_by p (x ∷ xs)) [
      | true ↦ λ k. let a = count_cons p x (filter q xs) in omega arith
      | false ↦ λ k. let d = ap one (h.0 k) in omega arith
    ]) refl

-- Whether there is one, as for lost sets, is whether the count is above 0. So the lemmas on counts serve lost sets too.
pub any_counted : {X : Type 0} (p : X → Bool) (xs : List X) → list_any p xs ≡ ltb 0 (count_by p xs)
any_counted p [] = refl
any_counted p (x ∷ xs) =
    let a = count_cons p x xs in
    (elim (p x) as (λ b. count_by p (x ∷ xs) ≡ one b + count_by p xs → b || list_any p xs ≡ ltb 0 (count_by p (x ∷ xs))) [
      | true ↦ λ e. sym (lt-ltb 0 (count_by p (x ∷ xs)) (omega arith))
      | false ↦ λ e. any_counted p xs ∙ ap (ltb 0) (let q : count_by p xs ≡ count_by p (x ∷ xs) = omega arith in q)
    ]) a

-- Sums.

pub sum_same : {X : Type 0} (f g : X → ℕ) (xs : List X) → Each (λ x. f x ≡ g x) xs → sum_by f xs ≡ sum_by g xs
sum_same f g [] h = refl
sum_same f g (x ∷ xs) h =
    let a = sum_by-cons f x xs in
    let b = sum_by-cons g x xs in
    let c = sum_same f g xs h.1 in
    let d : f x ≡ g x = h.0 in
    omega arith

pub sum_none : {X : Type 0} (f : X → ℕ) (xs : List X) → Each (λ x. f x ≡ 0) xs → sum_by f xs ≡ 0
sum_none f [] h = refl
sum_none f (x ∷ xs) h = let a = sum_by-cons f x xs in let b : f x ≡ 0 = h.0 in let c = sum_none f xs h.1 in omega arith

pub sum_filter : {X : Type 0} (f : X → ℕ) (q : X → Bool) (xs : List X) → Each (λ x. q x ≡ false → f x ≡ 0) xs → sum_by f (filter q xs) ≡ sum_by f xs
sum_filter f q [] h = refl
sum_filter f q (x ∷ xs) h =
    let b = sum_by-cons f x xs in
    let c = sum_filter f q xs h.1 in
    (elim (q x) as (λ v. q x ≡ v → sum_by f (cond v (x ∷ filter q xs) (filter q xs)) ≡ sum_by f (x ∷ xs)) [
      | true ↦ λ k. let a = sum_by-cons f x (filter q xs) in omega arith
      | false ↦ λ k. let d : f x ≡ 0 = h.0 k in omega arith
    ]) refl

-- the sum over those that pass
pub sum_where : {X : Type 0} (f : X → ℕ) (q : X → Bool) (xs : List X) → sum_by f (filter q xs) ≡ sum_by (λ x. cond (q x) (f x) 0) xs
sum_where f q [] = refl
sum_where f q (x ∷ xs) =
    let b = sum_by-cons (λ y. cond (q y) (f y) 0) x xs in
    let c = sum_where f q xs in
    (elim (q x) as (λ v. q x ≡ v → sum_by f (cond v (x ∷ filter q xs) (filter q xs)) ≡ sum_by (λ y. cond (q y) (f y) 0) (x ∷ xs)) [
      | true ↦ λ k. let a = sum_by-cons f x (filter q xs) in let d : cond (q x) (f x) 0 ≡ f x = ap (λ v. cond v (f x) 0) k in omega arith
      | false ↦ λ k. let d : cond (q x) (f x) 0 ≡ 0 = ap (λ v. cond v (f x) 0) k in omega arith
    ]) refl

pub sum_change : {X : Type 0} (f : X → ℕ) (q : X → Bool) (c : X → X) (xs : List X) → ((x : X) → f (c x) ≡ f x) → sum_by f (change_first q c xs) ≡ sum_by f xs
sum_change f q c [] h = refl
sum_change f q c (x ∷ xs) h =
    elim (q x) as (λ b. sum_by f (cond b (c x ∷ xs) (x ∷ change_first q c xs)) ≡ sum_by f (x ∷ xs)) [
      | true ↦ let a = sum_by-cons f (c x) xs in let b = sum_by-cons f x xs in let d : f (c x) ≡ f x = h x in omega arith
      | false ↦ let a = sum_by-cons f x (change_first q c xs) in let b = sum_by-cons f x xs in let d = sum_change f q c xs h in omega arith
    ]

pub count_map : {X : Type 0} (p : X → Bool) (f : X → X) (xs : List X) → count_by p (map f xs) ≡ count_by (λ x. p (f x)) xs
count_map p f [] = refl
count_map p f (x ∷ xs) = let a = count_cons p (f x) (map f xs) in let b = count_cons (λ y. p (f y)) x xs in let c = count_map p f xs in omega arith

pub any_map : {X : Type 0} (p : X → Bool) (f : X → X) (xs : List X) → list_any p (map f xs) ≡ list_any (λ x. p (f x)) xs
any_map p f [] = refl
any_map p f (x ∷ xs) = ap (λ b. p (f x) || b) (any_map p f xs)

-- each element has its part in each count
pub each_part : {X : Type 0} (xs ts : List X) → ((p : X → Bool) → count_by p xs ≤ count_by p ts) → Each (λ x. (p : X → Bool) → one (p x) ≤ count_by p ts) xs
each_part [] ts le = tt
each_part {X = X} (x ∷ xs) ts le = (
  (λ p. let a = count_cons p x xs in let b = le p in omega arith),
  each_part xs ts (λ p. let a = count_cons p x xs in let b = le p in omega arith),
)
