-- Beginnings of one list.
use Rattle.std.proofs.Common.{◌≡◌, ℕ, zero, suc, ◌≤◌, List, [], ◌∷◌, ◌++◌, length, Some, slice_get, refl, ap, sym, ◌∙◌, arith, append_assoc, length-append, drop, subst}
use Rattle.std.proofs.lemmas.List.{append-nil, length-drop}
use mathlib.Core.List.{IsPrefix}

-- each list begins with itself
pub prefix-self : {A : Type 0} (xs : List A) → IsPrefix xs xs
prefix-self xs = ([], append-nil xs)

pub prefix-trans : {A : Type 0} (xs ys zs : List A) → IsPrefix xs ys → IsPrefix ys zs → IsPrefix xs zs
prefix-trans xs ys zs p q = (p.0 ++ q.0, sym (append_assoc xs p.0 q.0) ∙ (ap (λ w. w ++ q.0) p.1 ∙ q.1))

-- of two beginnings of one list the shorter begins the longer
pub prefix-shorter : {A : Type 0} (xs ys zs : List A) → IsPrefix xs zs → IsPrefix ys zs → length xs ≤ length ys → IsPrefix xs ys
prefix-shorter [] ys zs p q le = (ys, refl)
prefix-shorter (x ∷ xs) [] zs p q le = absurd (omega arith)
prefix-shorter (x ∷ xs) (y ∷ ys) [] p q le = absurd (cc (p.1))
prefix-shorter (x ∷ xs) (y ∷ ys) (z ∷ zs) p q le =
    let heads : x ≡ y = cc (p.1, q.1) in
    let rest = prefix-shorter xs ys zs (p.0, cc (p.1)) (q.0, cc (q.1)) (omega arith) in
    (rest.0, cc (heads, rest.1))

-- a beginning as long as the whole is the whole
pub prefix-whole : {A : Type 0} (xs ys : List A) → IsPrefix xs ys → length ys ≤ length xs → xs ≡ ys
prefix-whole [] [] p le = refl
prefix-whole [] (y ∷ ys) p le = absurd (omega arith)
prefix-whole (x ∷ xs) [] p le = absurd (cc (p.1))
prefix-whole (x ∷ xs) (y ∷ ys) p le =
    let rest = prefix-whole xs ys (p.0, cc (p.1)) (omega arith) in cc (p.1, rest)

pub prefix-length : {A : Type 0} (xs ys : List A) → IsPrefix xs ys → length xs ≤ length ys
prefix-length xs ys p = omega (arith, sym (ap length p.1) ∙ length-append xs p.0)

-- what stands in a beginning stands in the whole, at the same place
pub prefix-get : {A : Type 0} (xs ys : List A) (k : ℕ) (x : A) → IsPrefix xs ys → slice_get xs k ≡ Some x → slice_get ys k ≡ Some x
prefix-get [] ys k x p h = absurd cc
prefix-get (y ∷ xs) [] k x p h = absurd (cc (p.1))
prefix-get (y ∷ xs) (z ∷ ys) zero x p h = cc (p.1, h)
prefix-get (y ∷ xs) (z ∷ ys) (suc k) x p h = prefix-get xs ys k x (p.0, cc (p.1)) h

-- two lists, the longer of which goes on from the shorter
pub prefix-longer : {A : Type 0} (xs ys zs : List A) → IsPrefix xs zs → IsPrefix ys zs → IsPrefix (xs ++ drop (length xs) ys) zs
prefix-longer [] ys zs p q = q
prefix-longer {A = A} (x ∷ xs) [] zs p q = subst (λ (l : List A). IsPrefix (x ∷ l) zs) (sym (append-nil xs)) p
prefix-longer (x ∷ xs) (y ∷ ys) [] p q = absurd (cc (p.1))
prefix-longer (x ∷ xs) (y ∷ ys) (z ∷ zs) p q =
    let rest = prefix-longer xs ys zs (p.0, cc (p.1)) (q.0, cc (q.1)) in
    let head : x ≡ z = cc (p.1) in (rest.0, cc (head, rest.1))

pub prefix-in-longer : {A : Type 0} (xs ys zs : List A) → IsPrefix xs zs → IsPrefix ys zs → IsPrefix ys (xs ++ drop (length xs) ys)
prefix-in-longer xs ys zs p q = prefix-shorter ys (xs ++ drop (length xs) ys) zs q (prefix-longer xs ys zs p q) (omega (arith, length-append xs (drop (length xs) ys), length-drop (length xs) ys))
