-- The numbers of leaves, and what a leaf that is written anew does to them.
use Rattle.std.proofs.Common.{◌≡◌, ℕ, zero, suc, ◌+◌, ◌<◌, ◌≤◌, ◌⊎◌, Bool, true, false, not, eqb, ltb, List, [], ◌∷◌, ◌++◌, length, take, set, replicate, sum, Some, slice_get, slice_index, refl, arith, ap, sym, subst, ◌∙◌, inl, inr}
use Rattle.std.proofs.lemmas.Bool.{cases_eq, cond-true, cond-false, lt-ltb, le-ltb, ne_eqb, eq-eqb}
use Rattle.std.proofs.lemmas.List.Sums.{sum_by-append}
use mir.Val.{bool_byte}
use Rattle.rx_rank.specs.Numbers.{inserted, removed, marked, Ascends}
use Rattle.rx_rank.specs.Counts.{numbers}

-- each number of the list is from a on and below b
abbrev pub Between : ℕ → ℕ → List ℕ → Type 0
Between a b [] = Unit {0}
Between a b (y ∷ ys) = (a ≤ y) × (y < b) × Between a b ys

pub between-wider : (a b c d : ℕ) (xs : List ℕ) → c ≤ a → b ≤ d → Between a b xs → Between c d xs
between-wider a b c d [] l m p = tt
between-wider a b c d (x ∷ xs) l m p = let p0 = p.0 in let p1 = p.1 in (omega arith, omega arith, between-wider a b c d xs l m p.2)

pub removed_none : (x a b : ℕ) (ys : List ℕ) → (x < a) ⊎ (b ≤ x) → Between a b ys → removed x ys ≡ ys
removed_none x a b [] o p = refl
removed_none x a b (y ∷ ys) o p =
    let p0 = p.0 in
    let p1 = p.1 in
    let ne : y ≡ x → ⊥ = elim o [ inl l ↦ λ e. omega arith | inr l ↦ λ e. omega arith ] in
    cond-true (not (eqb y x)) _ _ (ap not (ne_eqb y x ne)) ∙ ap (λ (w : List ℕ). y ∷ w) (removed_none x a b ys o p.2)

-- a leaf that counts nothing, and one that counts its number

none : (first c : ℕ) (cs : List ℕ) → c ≡ 0 → numbers first (c ∷ cs) ≡ numbers (first + 1) cs
unfolding numbers
none first c cs e = cond-true (eqb c 0) _ _ (eq-eqb c 0 e)

some : (first c : ℕ) (cs : List ℕ) → (c ≡ 0 → ⊥) → numbers first (c ∷ cs) ≡ first ∷ numbers (first + 1) cs
unfolding numbers
some first c cs ne = cond-false (eqb c 0) _ _ (ne_eqb c 0 ne)

pub empty : (first : ℕ) → numbers first [] ≡ []
unfolding numbers
empty first = refl

-- what holds of the numbers of one leaf more, if it counts nothing and if it counts
by_leaf : (P : List ℕ → Type 0) (first c : ℕ) (cs : List ℕ) → ((c ≡ 0) → P (numbers (first + 1) cs)) → ((c ≡ 0 → ⊥) → P (first ∷ numbers (first + 1) cs)) → P (numbers first (c ∷ cs))
by_leaf P first c cs p q = elim (cases_eq c 0) [
  | inl e ↦ subst P (sym (none first c cs e)) (p e)
  | inr ne ↦ subst P (sym (some first c cs ne)) (q ne)
]

-- the numbers are from the first on, ascend, and are no more than the leaves
pub numbers-between : (first : ℕ) (cs : List ℕ) → Between first (first + length cs) (numbers first cs)
unfolding numbers
numbers-between first [] = tt
numbers-between first (c ∷ cs) =
    let later : Between first (first + length (c ∷ cs)) (numbers (first + 1) cs) = between-wider (first + 1) (first + 1 + length cs) first (first + length (c ∷ cs)) (numbers (first + 1) cs) (omega arith) (omega arith) (numbers-between (first + 1) cs) in
    by_leaf (λ z. Between first (first + length (c ∷ cs)) z) first c cs (λ e. later) (λ ne. (omega arith, omega arith, later))

ascends-low : (a b : ℕ) (xs : List ℕ) → a ≤ b → Ascends b xs → Ascends a xs
ascends-low a b [] l p = tt
ascends-low a b (x ∷ xs) l p = let p0 = p.0 in (omega arith, p.1)

pub numbers-ascend : (first : ℕ) (cs : List ℕ) → Ascends first (numbers first cs)
unfolding numbers
numbers-ascend first [] = tt
numbers-ascend first (c ∷ cs) = by_leaf (λ z. Ascends first z) first c cs (λ e. ascends-low first (first + 1) (numbers (first + 1) cs) (omega arith) (numbers-ascend (first + 1) cs)) (λ ne. (omega arith, numbers-ascend (first + 1) cs))

pub numbers-most : (first : ℕ) (cs : List ℕ) → length (numbers first cs) ≤ length cs
unfolding numbers
numbers-most first [] = omega arith
numbers-most first (c ∷ cs) =
    let most = numbers-most (first + 1) cs in
    by_leaf (λ z. length z ≤ length (c ∷ cs)) first c cs (λ e. omega arith) (λ ne. omega arith)

sum-cons : (c : ℕ) (cs : List ℕ) → sum (c ∷ cs) ≡ c + sum cs
sum-cons c cs =
    let e : sum (c ∷ cs) ≡ sum (c ∷ []) + sum cs = sum_by-append (λ z. z) (c ∷ []) cs in
    let one : sum (c ∷ []) ≡ 0 + c = refl in
    omega arith

-- they are as many as the leaves count
pub numbers-length : (first : ℕ) (cs : List ℕ) → ((i : ℕ) → slice_index cs i ≤ 1) → length (numbers first cs) ≡ sum cs
unfolding numbers
numbers-length first [] bits = refl
numbers-length first (c ∷ cs) bits =
    let rest = numbers-length (first + 1) cs (λ i. bits (suc i)) in
    let bit : c ≤ 1 = bits 0 in
    by_leaf (λ z. length z ≡ c + sum cs) first c cs (λ e. omega arith) (λ ne. omega (arith, ne)) ∙ sym (sum-cons c cs)

-- the number of a leaf that counts 1 stands where the leaves before it count to
pub numbers-at : (first x k : ℕ) (cs : List ℕ) → ((i : ℕ) → slice_index cs i ≤ 1) → sum (take x cs) ≡ k → 0 < slice_index cs x → slice_get (numbers first cs) k ≡ Some (first + x)
numbers-at first x k [] bits e one = absurd (omega arith)
numbers-at first zero k (c ∷ cs) bits e one =
    let k0 : k ≡ 0 = sym e in
    let c0 : c ≡ 0 → ⊥ = λ z. omega (arith, one, z) in
    let x0 : first ≡ first + 0 = omega arith in
    ap (λ z. slice_get (numbers first (c ∷ cs)) z) k0 ∙ ap (λ (z : List ℕ). slice_get z 0) (some first c cs c0) ∙ ap (λ z. Some z) x0
numbers-at first (suc x) k (c ∷ cs) bits e one =
    let bit : c ≤ 1 = bits 0 in
    let e' : c + sum (take x cs) ≡ k = sym (sum-cons c (take x cs)) ∙ e in
    let last : first + 1 + x ≡ first + suc x = omega arith in
    let rest : slice_get (numbers (first + 1) cs) (sum (take x cs)) ≡ Some (first + suc x) = numbers-at (first + 1) x (sum (take x cs)) cs (λ i. bits (suc i)) refl one ∙ ap (λ z. Some z) last in
    by_leaf (λ z. slice_get z k ≡ Some (first + suc x)) first c cs
    (λ e0. let same : k ≡ sum (take x cs) = omega arith in ap (λ z. slice_get (numbers (first + 1) cs) z) same ∙ rest)
    (λ ne. let next : k ≡ suc (sum (take x cs)) = omega (arith, ne) in ap (λ z. slice_get (first ∷ numbers (first + 1) cs) z) next ∙ rest)

-- leaves that count nothing after the others
blank : (first m : ℕ) → numbers first (replicate m 0) ≡ []
unfolding numbers
blank first zero = refl
blank first (suc m) = none first 0 (replicate m 0) refl ∙ blank (first + 1) m

pub numbers-more : (first m : ℕ) (cs : List ℕ) → numbers first (cs ++ replicate m 0) ≡ numbers first cs
numbers-more first m [] = blank first m ∙ sym (empty first)
numbers-more first m (c ∷ cs) =
    by_leaf (λ z. numbers first (c ∷ (cs ++ replicate m 0)) ≡ z) first c cs
    (λ e. none first c (cs ++ replicate m 0) e ∙ numbers-more (first + 1) m cs)
    (λ ne. some first c (cs ++ replicate m 0) ne ∙ ap (λ (z : List ℕ). first ∷ z) (numbers-more (first + 1) m cs))

-- a number put in before all others, at its place, and after one
in-front : (x b : ℕ) (ys : List ℕ) → Between (x + 1) b ys → inserted x ys ≡ x ∷ ys
unfolding inserted
in-front x b [] p = refl
in-front x b (y ∷ ys) p = let p0 = p.0 in cond-true (ltb x y) _ _ (lt-ltb x y (omega arith))

in-place : (x : ℕ) (ys : List ℕ) → inserted x (x ∷ ys) ≡ x ∷ ys
unfolding inserted
in-place x ys = cond-false (ltb x x) _ _ (le-ltb x x (omega arith)) ∙ cond-true (eqb x x) _ _ (eq-eqb x x refl)

in-later : (x y : ℕ) (ys : List ℕ) → y < x → inserted x (y ∷ ys) ≡ y ∷ inserted x ys
unfolding inserted
in-later x y ys l = cond-false (ltb x y) _ _ (le-ltb x y (omega arith)) ∙ cond-false (eqb x y) _ _ (ne_eqb x y (λ e. omega arith))

put-in : (first x n : ℕ) (cs : List ℕ) → x < length cs → (n ≡ 0 → ⊥) → numbers first (set cs x n) ≡ inserted (first + x) (numbers first cs)
put-in first x n [] l ne = absurd (omega arith)
put-in first zero n (c ∷ cs) l ne =
    let x0 : first + 0 ≡ first = omega arith in
    some first n cs ne
    ∙ by_leaf (λ z. first ∷ numbers (first + 1) cs ≡ inserted first z) first c cs
    (λ e. sym (in-front first (first + 1 + length cs) (numbers (first + 1) cs) (numbers-between (first + 1) cs)))
    (λ _. sym (in-place first (numbers (first + 1) cs)))
    ∙ ap (λ z. inserted z (numbers first (c ∷ cs))) (sym x0)
put-in first (suc x) n (c ∷ cs) l ne =
    let last : first + 1 + x ≡ first + suc x = omega arith in
    let rest : numbers (first + 1) (set cs x n) ≡ inserted (first + suc x) (numbers (first + 1) cs) = put-in (first + 1) x n cs (omega arith) ne ∙ ap (λ z. inserted z (numbers (first + 1) cs)) last in
    elim (cases_eq c 0) [
      | inl e ↦ none first c (set cs x n) e ∙ rest ∙ ap (λ (z : List ℕ). inserted (first + suc x) z) (sym (none first c cs e))
      | inr some_c ↦ some first c (set cs x n) some_c ∙ ap (λ (z : List ℕ). first ∷ z) rest
          ∙ sym (in-later (first + suc x) first (numbers (first + 1) cs) (omega arith))
          ∙ ap (λ (z : List ℕ). inserted (first + suc x) z) (sym (some first c cs some_c))
    ]

out-here : (x : ℕ) (ys : List ℕ) → removed x (x ∷ ys) ≡ removed x ys
out-here x ys = cond-false (not (eqb x x)) _ _ (ap not (eq-eqb x x refl))

out-later : (x y : ℕ) (ys : List ℕ) → (y ≡ x → ⊥) → removed x (y ∷ ys) ≡ y ∷ removed x ys
out-later x y ys ne = cond-true (not (eqb y x)) _ _ (ap not (ne_eqb y x ne))

take-out : (first x n : ℕ) (cs : List ℕ) → x < length cs → n ≡ 0 → numbers first (set cs x n) ≡ removed (first + x) (numbers first cs)
take-out first x n [] l z = absurd (omega arith)
take-out first zero n (c ∷ cs) l z =
    let x0 : first + 0 ≡ first = omega arith in
    let gone : removed first (numbers (first + 1) cs) ≡ numbers (first + 1) cs = removed_none first (first + 1) (first + 1 + length cs) (numbers (first + 1) cs) (inl (omega arith)) (numbers-between (first + 1) cs) in
    none first n cs z
    ∙ by_leaf (λ w. numbers (first + 1) cs ≡ removed first w) first c cs
    (λ e. sym gone)
    (λ _. sym (out-here first (numbers (first + 1) cs) ∙ gone))
    ∙ ap (λ w. removed w (numbers first (c ∷ cs))) (sym x0)
take-out first (suc x) n (c ∷ cs) l z =
    let last : first + 1 + x ≡ first + suc x = omega arith in
    let rest : numbers (first + 1) (set cs x n) ≡ removed (first + suc x) (numbers (first + 1) cs) = take-out (first + 1) x n cs (omega arith) z ∙ ap (λ w. removed w (numbers (first + 1) cs)) last in
    elim (cases_eq c 0) [
      | inl e ↦ none first c (set cs x n) e ∙ rest ∙ ap (λ (w : List ℕ). removed (first + suc x) w) (sym (none first c cs e))
      | inr some_c ↦ some first c (set cs x n) some_c ∙ ap (λ (w : List ℕ). first ∷ w) rest
          ∙ sym (out-later (first + suc x) first (numbers (first + 1) cs) (λ same. omega (arith, same)))
          ∙ ap (λ (w : List ℕ). removed (first + suc x) w) (sym (some first c cs some_c))
    ]

-- a leaf written anew
pub numbers-set : (s : Bool) (x n : ℕ) (cs : List ℕ) → x < length cs → n ≡ bool_byte s → numbers 0 (set cs x n) ≡ marked s x (numbers 0 cs)
numbers-set true x n cs l b = let b' : n ≡ 1 = b in let x0 : 0 + x ≡ x = omega arith in put-in 0 x n cs l (λ z. omega (arith, z)) ∙ ap (λ z. inserted z (numbers 0 cs)) x0
numbers-set false x n cs l b = let b' : n ≡ 0 = b in let x0 : 0 + x ≡ x = omega arith in take-out 0 x n cs l b' ∙ ap (λ z. removed z (numbers 0 cs)) x0

pub bit-most : (s : Bool) (n : ℕ) → n ≡ bool_byte s → n ≤ 1
bit-most true n e = let e' : n ≡ 1 = e in omega arith
bit-most false n e = let e' : n ≡ 0 = e in omega arith
