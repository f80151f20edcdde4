-- Lists of paths: which are in them, and those of a list from a number back.
use Rattle.std.proofs.Common.{◌≡◌, ◌⊎◌, ℕ, zero, suc, ◌+◌, ◌<◌, ◌≤◌, true, false, cond, List, [], ◌∷◌, ◌++◌, length, map, reverse, slice_index_or, Contains, sum_by, refl, ap, sym, subst, ◌∙◌, arith, add-one, inl, inr, ⊎_elim}
use Rattle.std.specs.Cmp.{IsStrictWeakOrder}
use Rattle.std.specs.List.Sorted.{IsPermutation, IsSortedBy}
use Rattle.std.proofs.lemmas.Bool.{true≢false, false_from_ne_true}
use Rattle.std.proofs.lemmas.List.Sorted.{Contains-permutation, sum_by-IsPermutation, IsPermutation-sym}
use Rattle.std.proofs.lemmas.List.{map-append, reverse-append}
use Rattle.std.proofs.lemmas.List.Sums.{sum_by-cons}
use Rattle.rx_rules.proofs.Common.{Block}
use Rattle.rx_history_laws.specs.Once.{IsNone, AllDiffer}
use Rattle.rx_history_laws.proofs.Paths.{comes-trans, comes-other}
use Rattle.rx_span.specs.Paths.{IsPath, ArePaths, ComesBefore}
use Rattle.rx_span.specs.Chains.{In}
use Rattle.rx_span.specs.Inside.Sorting.{comes, Below, Descends, next_of, backwards}
use Rattle.rx_span.proofs.Sharing.{comes-true, true-comes, comes-either}

-- In and Contains.

pub in-at : (ys : List (List ℕ)) (k : ℕ) (x : List ℕ) → k < length ys → slice_index_or ys k x ≡ x → In x ys
in-at [] k x l e = absurd (omega arith)
in-at (y ∷ ys) zero x l e = inl (sym e)
in-at (y ∷ ys) (suc k) x l e = inr (in-at ys k x (omega arith) e)

pub in-contains : (x : List ℕ) (ys : List (List ℕ)) → In x ys → Contains ys x
in-contains x [] h = absurd h
in-contains x (y ∷ ys) (inl e) = (0, omega arith, sym e)
in-contains x (y ∷ ys) (inr h) = let r = in-contains x ys h in (suc r.0, omega arith, r.2)

pub contains-in : (x : List ℕ) (ys : List (List ℕ)) → Contains ys x → In x ys
contains-in x ys h = in-at ys h.0 x h.1 h.2

pub in-permutation : (xs ys : List (List ℕ)) (x : List ℕ) → IsPermutation xs ys → In x xs → In x ys
in-permutation xs ys x p h = contains-in x ys (Contains-permutation xs ys x p (in-contains x xs h))

-- paths of a script
pub path-in : (code : Block) (ys : List (List ℕ)) (x : List ℕ) → ArePaths code ys → In x ys → IsPath code x
path-in code [] x h i = absurd i
path-in code (y ∷ ys) x h (inl e) = subst (IsPath code) (sym e) h.0
path-in code (y ∷ ys) x h (inr i) = path-in code ys x h.1 i

pub paths-from : (code : Block) (xs : List (List ℕ)) → ((x : List ℕ) → In x xs → IsPath code x) → ArePaths code xs
paths-from code [] f = tt
paths-from code (x ∷ xs) f = (f x (inl refl), paths-from code xs (λ y i. f y (inr i)))

pub paths-permutation : (code : Block) (xs ys : List (List ℕ)) → IsPermutation xs ys → ArePaths code xs → ArePaths code ys
paths-permutation code xs ys p h =
    paths-from code ys (λ x i. path-in code xs x h (in-permutation ys xs x (IsPermutation-sym xs ys p) i))

-- From a number back.

pub next-in : (xs : List (List ℕ)) (k : ℕ) → k < length xs → In (next_of k xs) xs
next-in [] k l = absurd (omega arith)
next-in (x ∷ xs) zero l = inl refl
next-in (x ∷ xs) (suc k) l = inr (next-in xs k (omega arith))

pub back-in : (xs : List (List ℕ)) (k : ℕ) (x : List ℕ) → k ≤ length xs → In x (backwards k xs) → In x xs
back-in xs zero x l h = absurd h
back-in xs (suc k) x l (inl e) = subst (λ y. In y xs) (sym e) (next-in xs k (omega arith))
back-in xs (suc k) x l (inr h) = back-in xs k x (omega arith) h

le_cases : (i k : ℕ) → i ≤ k → (i ≡ k) ⊎ (i < k)
le_cases zero zero l = inl refl
le_cases zero (suc k) l = inr (omega arith)
le_cases (suc i) zero l = absurd (omega arith)
le_cases (suc i) (suc k) l = ⊎_elim (λ (e : i ≡ k). inl (ap suc e)) (λ (m : i < k). inr (omega arith)) (le_cases i k (omega arith))

pub in-back_at : (xs : List (List ℕ)) (k i : ℕ) → i < k → In (next_of i xs) (backwards k xs)
in-back_at xs zero i l = absurd (omega arith)
in-back_at xs (suc k) i l =
    ⊎_elim (λ (e : i ≡ k). inl (ap (λ n. next_of n xs) e)) (λ (m : i < k). inr (in-back_at xs k i m)) (le_cases i k (omega arith))

in-number : (xs : List (List ℕ)) (x : List ℕ) → In x xs → (i : ℕ) × (i < length xs) × (x ≡ next_of i xs)
in-number [] x h = absurd h
in-number (y ∷ ys) x (inl e) = (0, omega arith, e)
in-number (y ∷ ys) x (inr h) = let r = in-number ys x h in (suc r.0, omega arith, r.2)

pub in-back : (xs : List (List ℕ)) (x : List ℕ) → In x xs → In x (backwards (length xs) xs)
in-back xs x h = let r = in-number xs x h in subst (λ y. In y (backwards (length xs) xs)) (sym r.2) (in-back_at xs (length xs) r.0 r.1)

pub length-back : (k : ℕ) (xs : List (List ℕ)) → length (backwards k xs) ≡ k
length-back zero xs = refl
length-back (suc k) xs = ap suc (length-back k xs)

-- Descending lists.

-- P holds of each
abbrev pub All : (List ℕ → Type 0) → List (List ℕ) → Type 0
All P [] = Unit {0}
All P (x ∷ xs) = P x × All P xs

pub all-member : (P : List ℕ → Type 0) (xs : List (List ℕ)) (x : List ℕ) → All P xs → In x xs → P x
all-member P [] x h i = absurd i
all-member P (y ∷ ys) x h (inl e) = subst P (sym e) h.0
all-member P (y ∷ ys) x h (inr i) = all-member P ys x h.1 i

-- each comes before all later ones
abbrev pub Ascends : List (List ℕ) → Type 0
Ascends [] = Unit {0}
Ascends (x ∷ xs) = All (ComesBefore x) xs × Ascends xs

below-at : (x : List ℕ) (xs : List (List ℕ)) (j : ℕ) → Below x xs → j < length xs → ComesBefore (next_of j xs) x
below-at x [] j h l = absurd (omega arith)
below-at x (y ∷ ys) zero h l = comes-true y x h.0
below-at x (y ∷ ys) (suc j) h l = below-at x ys j h.1 (omega arith)

pub descends-at : (xs : List (List ℕ)) (i j : ℕ) → Descends xs → i < j → j < length xs → ComesBefore (next_of j xs) (next_of i xs)
descends-at [] i j h m l = absurd (omega arith)
descends-at (x ∷ xs) i zero h m l = absurd (omega arith)
descends-at (x ∷ xs) zero (suc j) h m l = below-at x xs j h.0 (omega arith)
descends-at (x ∷ xs) (suc i) (suc j) h m l = descends-at xs i j h.1 (omega arith) (omega arith)

pub all-back : (P : List ℕ → Type 0) (xs : List (List ℕ)) (k : ℕ) → ((i : ℕ) → i < k → P (next_of i xs)) → All P (backwards k xs)
all-back P xs zero f = tt
all-back P xs (suc k) f = (f k (omega arith), all-back P xs k (λ i l. f i (omega arith)))

pub next-comes : (xs : List (List ℕ)) (k : ℕ) → Descends xs → k < length xs → All (ComesBefore (next_of k xs)) (backwards k xs)
next-comes xs k h l = all-back (ComesBefore (next_of k xs)) xs k (λ i m. descends-at xs i k h m l)

pub ascends-back : (xs : List (List ℕ)) (k : ℕ) → Descends xs → k ≤ length xs → Ascends (backwards k xs)
ascends-back xs zero h l = tt
ascends-back xs (suc k) h l = (next-comes xs k h (omega arith), ascends-back xs k h (omega arith))

pub paths-back : (code : Block) (xs : List (List ℕ)) (k : ℕ) → ArePaths code xs → k ≤ length xs → All (IsPath code) (backwards k xs)
paths-back code xs k h l = all-back (IsPath code) xs k (λ i m. path-in code xs (next_of i xs) h (next-in xs i (omega arith)))

-- A sorted list of paths that differ descends.

-- 1 for the same path
abbrev same : List ℕ → List ℕ → ℕ
same x y = cond (comes x y) 0 (cond (comes y x) 0 1)

other_comes : (x y : List ℕ) → (ComesBefore x y → ⊥) → comes x y ≡ false
other_comes x y n = false_from_ne_true (comes x y) (λ e. n (comes-true x y e))

same-self : (x : List ℕ) → same x x ≡ 1
same-self x = rw (other_comes x x (comes-other x)) refl

same-other : (x y : List ℕ) → (x ≡ y → ⊥) → same x y ≡ 0
same-other x y n = by_order (comes-either x y)
  where
    by_order : (x ≡ y) ⊎ (ComesBefore x y ⊎ ComesBefore y x) → same x y ≡ 0
    by_order (inl e) = absurd (n e)
    by_order (inr (inl h)) = rw (true-comes x y h) refl
    by_order (inr (inr h)) = rw (other_comes x y (λ k. comes-other x (comes-trans x y x k h)), true-comes y x h) refl

-- x is y or comes after it, where it does not come before it
not_before : (x y : List ℕ) → comes x y ≡ false → (x ≡ y) ⊎ ComesBefore y x
not_before x y e =
    ⊎_elim (λ (i : x ≡ y). inl i) (λ (h : ComesBefore x y ⊎ ComesBefore y x). ⊎_elim (λ (k : ComesBefore x y). absurd (true≢false (sym (true-comes x y k) ∙ e))) (λ (k : ComesBefore y x). inr k) h) (comes-either x y)

from_not_before : (x y : List ℕ) → (x ≡ y) ⊎ ComesBefore y x → comes x y ≡ false
from_not_before x y (inl e) = other_comes x y (λ k. comes-other x (subst (ComesBefore x) (sym e) k))
from_not_before x y (inr h) = other_comes x y (λ k. comes-other x (comes-trans x y x k h))

after-after : (x y z : List ℕ) → (y ≡ x) ⊎ ComesBefore x y → (z ≡ y) ⊎ ComesBefore y z → (z ≡ x) ⊎ ComesBefore x z
after-after x y z (inl e) (inl f) = inl (f ∙ e)
after-after x y z (inl e) (inr k) = inr (subst (λ w. ComesBefore w z) e k)
after-after x y z (inr h) (inl f) = inr (subst (ComesBefore x) (sym f) h)
after-after x y z (inr h) (inr k) = inr (comes-trans x y z h k)

-- the test is an order
pub order-comes : {X : Type 0} (f : X → List ℕ) → IsStrictWeakOrder (λ a b. comes (f b) (f a))
order-comes f =
    record {
      one_way = λ x y e. from_not_before (f x) (f y) (inr (comes-true (f y) (f x) e));
      chain = λ x y z e h. from_not_before (f z) (f x) (after-after (f x) (f y) (f z) (not_before (f y) (f x) e) (not_before (f z) (f y) h));
    }

-- how often the path is in the list
abbrev times : List ℕ → List (List ℕ) → ℕ
times x ys = sum_by (same x) ys

times-none : (x : List ℕ) (ys : List (List ℕ)) → IsNone x ys → times x ys ≡ 0
times-none x [] h = refl
times-none x (y ∷ ys) h =
    let e = sum_by-cons (same x) y ys in let o = same-other x y h.0 in let r = times-none x ys h.1 in omega arith

times-once : (x : List ℕ) (ys : List (List ℕ)) → AllDiffer ys → times x ys ≤ 1
times-once x [] h = omega arith
times-once x (y ∷ ys) h = by_order (comes-either x y) (times-once x ys h.1) (sum_by-cons (same x) y ys)
  where
    other : (x ≡ y → ⊥) → times x ys ≤ 1 → times x (y ∷ ys) ≡ same x y + times x ys → times x (y ∷ ys) ≤ 1
    other n r e = let z = same-other x y n in omega arith

    by_order : (x ≡ y) ⊎ (ComesBefore x y ⊎ ComesBefore y x) → times x ys ≤ 1 → times x (y ∷ ys) ≡ same x y + times x ys → times x (y ∷ ys) ≤ 1
    by_order (inl i) r e =
        let z : times x ys ≡ 0 = subst (λ w. times w ys ≡ 0) (sym i) (times-none y ys h.0) in
        let o : same x y ≡ 1 = subst (λ w. same x w ≡ 1) i (same-self x) in
        omega arith
    by_order (inr (inl k)) r e = other (λ i. comes-other x (subst (ComesBefore x) (sym i) k)) r e
    by_order (inr (inr k)) r e = other (λ i. comes-other x (subst (λ w. ComesBefore w x) (sym i) k)) r e

below-further : (y x : List ℕ) (ys : List (List ℕ)) → ComesBefore y x → Below y ys → Below x ys
below-further y x [] k b = tt
below-further y x (z ∷ zs) k b = (true-comes z x (comes-trans z y x (comes-true z y b.0) k), below-further y x zs k b.1)

-- no path comes after the one before it
abbrev Sinks : List (List ℕ) → Type 0
Sinks [] = Unit {0}
Sinks (x ∷ []) = Unit {0}
Sinks (x ∷ y ∷ ys) = (comes x y ≡ false) × Sinks (y ∷ ys)

sinks-descends : (xs : List (List ℕ)) → Sinks xs → ((x : List ℕ) → times x xs ≤ 1) → Descends xs
sinks-descends [] h f = tt
sinks-descends (x ∷ []) h f = (tt, tt)
sinks-descends (x ∷ y ∷ ys) h f =
    let rest : Descends (y ∷ ys) = sinks-descends (y ∷ ys) h.1 (λ z. (let e = sum_by-cons (same z) x (y ∷ ys) in let l = f z in omega arith)) in
    let first : ComesBefore y x = by_order (comes-either x y) in
    ((true-comes y x first, below-further y x ys first rest.0), rest)
  where
    by_order : (x ≡ y) ⊎ (ComesBefore x y ⊎ ComesBefore y x) → ComesBefore y x
    by_order (inl i) = absurd (
        let a = sum_by-cons (same x) x (y ∷ ys) in
        let b = sum_by-cons (same x) y ys in
        let s : same x x ≡ 1 = same-self x in
        let t : same x y ≡ 1 = subst (λ w. same x w ≡ 1) i (same-self x) in
        let l = f x in omega arith)
    by_order (inr (inl k)) = absurd (true≢false (sym (true-comes x y k) ∙ h.0))
    by_order (inr (inr k)) = k

sorted-sinks : {X : Type 0} (f : X → List ℕ) (xs : List X) → IsSortedBy (λ a b. comes (f b) (f a)) xs → Sinks (map f xs)
sorted-sinks f [] h = tt
sorted-sinks f (x ∷ []) h = tt
sorted-sinks f (x ∷ y ∷ ys) h =
    (h 0 x (omega arith) (omega arith), sorted-sinks f (y ∷ ys) (λ k d l m. rw (add-one k) (rw (add-one (suc k)) at (h (suc k) d (omega arith) (omega arith)))))

pub sorted-descends : {X : Type 0} (f : X → List ℕ) (xs : List X) (ys : List (List ℕ)) → IsSortedBy (λ a b. comes (f b) (f a)) xs → AllDiffer ys → IsPermutation ys (map f xs) → Descends (map f xs)
sorted-descends f xs ys h d p =
    sinks-descends (map f xs) (sorted-sinks f xs h) (λ x. (let e = sum_by-IsPermutation (same x) ys (map f xs) p in let l = times-once x ys d in omega arith))

-- Lists that were told in ascending order.

-- a path that comes after the last one
pub descends-last : (xs rest : List (List ℕ)) (x y : List ℕ) → xs ≡ rest ++ x ∷ [] → comes x y ≡ true → Descends (reverse xs) → Descends (y ∷ reverse xs)
descends-last xs rest x y e h d =
    let r : reverse xs ≡ x ∷ reverse rest = ap reverse e ∙ reverse-append rest (x ∷ []) in
    let falls : Below x (reverse rest) × Descends (reverse rest) = subst Descends r d in
    (subst (Below y) (sym r) (h, below-further x y (reverse rest) (comes-true x y h) falls.0), d)

pub map-reverse : {X : Type 0} (f : X → List ℕ) (xs : List X) → map f (reverse xs) ≡ reverse (map f xs)
map-reverse f [] = refl
map-reverse f (x ∷ xs) =
    ap (map f) (reverse-append (x ∷ []) xs) ∙ map-append f (reverse xs) (x ∷ []) ∙ ap (λ l. l ++ f x ∷ []) (map-reverse f xs)
    ∙ sym (reverse-append (f x ∷ []) (map f xs))
