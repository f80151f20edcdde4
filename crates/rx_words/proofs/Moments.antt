-- Moments in order: they stand so in one list alone, and a sort makes it.
use Rattle.std.proofs.Common.{◌≡◌, ℕ, suc, ◌+◌, ◌<◌, ◌≤◌, Bool, true, false, cond, List, [], ◌∷◌, ◌++◌, length, nat_lt, ◌==◌, refl, ap, sym, ◌∙◌, subst, arith, slice_index_or}
use Rattle.std.specs.List.{sum_by}
use Rattle.std.specs.List.Sorted.{IsPermutation, IsSorted}
use Rattle.std.specs.Ordering.{nat_cmp}
use Rattle.std.proofs.lemmas.Bool.Decides.{nat_tests}
use Rattle.std.proofs.lemmas.List.Sums.{sum_by-cons}
use Rattle.std.proofs.lemmas.List.Sorted.{sum_by-IsPermutation, IsNonDecreasingBy-from_sort}
use Rattle.rx_rules.proofs.Common.{AreJoins}
use Rattle.rx_history.specs.JoinOrder.{NeverFalls, IsAtLeastLast}
use Rattle.rx_words.specs.Moments.{OneMomentOrder}
use Rattle.rx_words.specs.Inside.Rising.{rising}

-- how often a moment stands in a list
abbrev is_moment : ℕ → ℕ → ℕ
is_moment n x = cond (x == n) 1 0

abbrev times : ℕ → List ℕ → ℕ
times n xs = sum_by (is_moment n) xs

-- a moment below all of them does not
none-below : (n low : ℕ) (xs : List ℕ) → n < low → AreJoins low xs → times n xs ≡ 0
none-below n low [] less up = refl
none-below n low (x ∷ xs) less up =
    let le : low ≤ x = up.0 in
    let other : (x == n) ≡ false = grind (arith, nat_tests) in
    let here : is_moment n x ≡ 0 = rw other refl in
    let rest = none-below n x xs (omega arith) up.1 in
    sum_by-cons (is_moment n) x xs ∙ omega (arith, here, rest)

itself : (x : ℕ) (xs : List ℕ) → 1 ≤ times x (x ∷ xs)
itself x xs =
    let same : (x == x) ≡ true = grind (arith, nat_tests) in
    let here : is_moment x x ≡ 1 = rw same refl in
    let all : times x (x ∷ xs) ≡ is_moment x x + times x xs = sum_by-cons (is_moment x) x xs in
    omega arith

-- two lists that never fall and name each moment as often are one
one-list : (low : ℕ) (xs ys : List ℕ) → AreJoins low xs → AreJoins low ys → ((n : ℕ) → times n xs ≡ times n ys) → xs ≡ ys
one-list low [] [] up vp same = refl
one-list low [] (y ∷ ys) up vp same =
    let a : 0 ≡ times y (y ∷ ys) = same y in let b = itself y ys in absurd (omega arith)
one-list low (x ∷ xs) [] up vp same =
    let a : times x (x ∷ xs) ≡ 0 = same x in let b = itself x xs in absurd (omega arith)
one-list low (x ∷ xs) (y ∷ ys) up vp same = by (nat_lt x y) (nat_lt y x) refl refl (λ wp rest. one-list x xs ys up.1 wp rest)
  where
    by : (a b : Bool) → nat_lt x y ≡ a → nat_lt y x ≡ b → (AreJoins x ys → ((n : ℕ) → times n xs ≡ times n ys) → xs ≡ ys) → x ∷ xs ≡ y ∷ ys
    by true b e f more =
        let l : x < y = grind (arith, nat_tests) in
        let none : times x (y ∷ ys) ≡ 0 = none-below x y (y ∷ ys) l (omega arith, vp.1) in
        let some = itself x xs in
        let all = same x in
        absurd (omega arith)
    by false true e f more =
        let l : y < x = grind (arith, nat_tests) in
        let none : times y (x ∷ xs) ≡ 0 = none-below y x (x ∷ xs) l (omega arith, up.1) in
        let some = itself y ys in
        let all = same y in
        absurd (omega arith)
    by false false e f more =
        let is : x ≡ y = grind (arith, nat_tests) in
        let wp : AreJoins x ys = subst (λ n. AreJoins n ys) (sym is) vp.1 in
        let rest : (n : ℕ) → times n xs ≡ times n ys = λ n.
        (let a : times n (x ∷ xs) ≡ is_moment n x + times n xs = sum_by-cons (is_moment n) x xs in
        let b : times n (y ∷ ys) ≡ is_moment n y + times n ys = sum_by-cons (is_moment n) y ys in
        let c : is_moment n x ≡ is_moment n y = ap (is_moment n) is in
        let d = same n in
        omega arith) in
        ap (λ e. e ∷ xs) is ∙ ap (λ es. y ∷ es) (more wp rest)

pub one-moment-order : OneMomentOrder
one-moment-order named a b =
    one-list 0 a.moments b.moments a.never_falls b.never_falls
    (λ n. sum_by-IsPermutation (is_moment n) named a.moments a.same ∙ sym (sum_by-IsPermutation (is_moment n) named b.moments b.same))

-- what a sort of moments ensures
far : (low : ℕ) (xs : List ℕ) → ((d : ℕ) → 0 < length xs → low ≤ slice_index_or xs 0 d) → ((i d : ℕ) → suc i < length xs → slice_index_or xs i d ≤ slice_index_or xs (suc i) d) → AreJoins low xs
far low [] first h = tt
far low (x ∷ xs) first h =
    (first 0 (omega arith), far x xs (λ d some. h 0 d (omega arith)) (λ i d lt. h (suc i) d (omega arith)))

pub sorted-rises : (xs : List ℕ) → IsSorted nat_cmp xs → NeverFalls xs
sorted-rises xs up =
    let rises = IsNonDecreasingBy-from_sort (λ x. x) xs up in
    far 0 xs (λ d some. omega arith) (λ i d lt. rises i (suc i) d (omega arith) lt)

-- so a sort of the named moments gives the list of them in order
pub sorted-is : (named xs : List ℕ) → IsPermutation named xs → IsSorted nat_cmp xs → xs ≡ (rising named).moments
sorted-is named xs same up =
    one-moment-order named (record { moments = xs; never_falls = sorted-rises xs up; same = same }) (rising named)

-- a moment that stands next in such a list is at least the last one before it
last-by : (low a e : ℕ) (xs ys : List ℕ) → AreJoins low (a ∷ xs ++ e ∷ ys) → IsAtLeastLast (a ∷ xs) e
last-by low a e [] ys up = up.1.0
last-by low a e (x ∷ xs) ys up = last-by a x e xs ys up.1

pub at-least-last : (e : ℕ) (xs ys : List ℕ) → NeverFalls (xs ++ e ∷ ys) → IsAtLeastLast xs e
at-least-last e [] ys up = tt
at-least-last e (x ∷ xs) ys up = last-by 0 x e xs ys up
