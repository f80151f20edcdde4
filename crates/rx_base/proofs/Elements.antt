-- Lists and their elements by position.
use Rattle.std.proofs.Common.{◌≡◌, ℕ, zero, suc, ◌+◌, ◌<◌, Bool, true, false, cond, List, [], ◌∷◌, ◌++◌, length, drop, set, slice_get, slice_index, slice_set, Option, Some, refl, ap, sym, ◌∙◌, subst, arith, append_assoc, append-nil}
use Rattle.std.specs.List.{find}
use Rattle.std.specs.Str.{bytes_eq}
use Rattle.std.proofs.lemmas.Bool.{eq-eqb}
use mathlib.Core.Option.{some, some-ne-none}
use lib.ListN.{get_elem?}

-- Heads and ends.

pub tails-are : {A : Type 0} (a b : A) (x y : List A) → a ∷ x ≡ b ∷ y → x ≡ y
tails-are a b x y same = cc

pub rest-is : {A : Type 0} (a : A) (x y : List A) → a ∷ x ≡ a ∷ y → x ≡ y
rest-is a x y same = cc

pub push-not-nil : {A : Type 0} (xs : List A) (x : A) → xs ++ x ∷ [] ≡ [] → ⊥
push-not-nil [] x e = cc
push-not-nil (y ∷ ys) x e = cc

pub length-push : {A : Type 0} (xs : List A) (x : A) → length (xs ++ x ∷ []) ≡ suc (length xs)
length-push [] x = refl
length-push (y ∷ xs) x = ap suc (length-push xs x)

pub empty-from : {X : Type 0} (xs : List X) → length xs ≡ 0 → xs ≡ []
empty-from [] h = refl
empty-from (x ∷ xs) h = absurd (omega arith)

pub flat4 : {A : Type 0} (a b c d : List A) → a ++ (b ++ (c ++ (d ++ []))) ≡ ((a ++ b) ++ c) ++ d
flat4 a b c d = simp (append_assoc, append-nil)

-- what stands at the end of equal lists is equal
pub last-is : {A : Type 0} (xs ys : List A) (a b : A) → xs ++ a ∷ [] ≡ ys ++ b ∷ [] → a ≡ b
last-is [] [] a b h = cc h
last-is [] (y ∷ []) a b h = absurd (cc h)
last-is [] (y ∷ z ∷ ys) a b h = absurd (cc h)
last-is (x ∷ []) [] a b h = absurd (cc h)
last-is (x ∷ w ∷ xs) [] a b h = absurd (cc h)
last-is (x ∷ xs) (y ∷ ys) a b h = last-is xs ys a b (cc h)

-- Elements by position.

pub get-within : {X : Type 0} (xs : List X) (i : ℕ) → i < length xs → (x : X) × (slice_get xs i ≡ Some x)
get-within [] i low = absurd (omega arith)
get-within (x ∷ xs) zero low = (x, refl)
get-within (x ∷ xs) (suc i) low = get-within xs i (omega arith)

pub not-empty : {X : Type 0} (xs : List X) (i : ℕ) (x : X) → xs ≡ [] → slice_get xs i ≡ Some x → ⊥
not-empty [] i x e h = cc
not-empty (y ∷ ys) i x e h = cc

-- what a longer list has at a place that a shorter one has
pub get-more : {A : Type 0} (xs ys : List A) (i : ℕ) (x : A) → slice_get xs i ≡ Some x → slice_get (xs ++ ys) i ≡ Some x
get-more [] ys i x h = cc
get-more (y ∷ xs) ys zero x h = h
get-more (y ∷ xs) ys (suc i) x h = get-more xs ys i x h

pub more-at : {A : Type 0} (xs ys zs : List A) → zs ≡ xs ++ ys → (i : ℕ) (x : A) → slice_get xs i ≡ Some x → slice_get zs i ≡ Some x
more-at xs ys zs e i x h = ap (λ us. slice_get us i) e ∙ get-more xs ys i x h

pub get-pushed : {A : Type 0} (xs : List A) (x : A) → slice_get (xs ++ x ∷ []) (length xs) ≡ Some x
get-pushed [] x = refl
get-pushed (y ∷ xs) x = get-pushed xs x

pub get-last : {A : Type 0} (xs : List A) (x : A) (i : ℕ) → i ≡ length xs → slice_get (xs ++ x ∷ []) i ≡ Some x
get-last xs x i e = ap (λ n. slice_get (xs ++ x ∷ []) n) e ∙ get-pushed xs x

pub get-set : {X : Type 0} (xs : List X) (k : ℕ) (x : X) → k < length xs → slice_get (slice_set xs k x) k ≡ Some x
get-set [] k x low = absurd (omega arith)
get-set (y ∷ xs) zero x low = refl
get-set (y ∷ xs) (suc k) x low = get-set xs k x (omega arith)

-- lists of one word

pub one-word : (ws : List ℕ) (a : ℕ) → ws ≡ a ∷ [] → slice_index ws 0 ≡ a
one-word ws a is = ap (λ (l : List ℕ). slice_index l 0) is

pub set-one : (ws : List ℕ) (a b : ℕ) → ws ≡ a ∷ [] → slice_set ws 0 b ≡ b ∷ []
set-one ws a b is = ap (λ (l : List ℕ). slice_set l 0 b) is

pub set-one-again : (ws : List ℕ) (a : ℕ) → ws ≡ a ∷ [] → slice_set ws 0 (slice_index ws 0) ≡ ws
set-one-again ws a is = ap (λ (l : List ℕ). slice_set l 0 (slice_index l 0)) is ∙ sym is

pub drop-suc : {A : Type 0} (xs : List A) (i : ℕ) (x : A) → slice_get xs i ≡ Some x → drop i xs ≡ x ∷ drop (suc i) xs
drop-suc [] i x h = cc
drop-suc (y ∷ ys) zero x h = let e : y ≡ x = cc in ap (λ z. z ∷ ys) e
drop-suc (y ∷ ys) (suc i) x h = drop-suc ys i x h

pub drop-next : {A : Type 0} (xs : List A) (i : ℕ) (x : A) → slice_get xs i ≡ Some x → drop i xs ≡ x ∷ drop (i + 1) xs
drop-next xs i x e = drop-suc xs i x e ∙ ap (λ n. x ∷ drop n xs) (let next : suc i ≡ i + 1 = omega arith in next)

pub at-inside : {A : Type 0} (l : List A) (i : ℕ) (a : A) → get_elem? l i ≡ some a → i < length l
at-inside [] i a e = absurd (some-ne-none a (sym e))
at-inside (x ∷ xs) zero a e = omega arith
at-inside (x ∷ xs) (suc i) a e = let h = at-inside xs i a e in omega arith

pub length-set : {A : Type 0} (l : List A) (i : ℕ) (a : A) → length (set l i a) ≡ length l
length-set [] i a = refl
length-set (x ∷ xs) zero a = refl
length-set (x ∷ xs) (suc i) a = ap suc (length-set xs i a)

-- two lists with the same items at the same places
pub same-items : {A : Type 0} (xs ys : List A) → length xs ≡ length ys → ((k : ℕ) → k < length xs → slice_get xs k ≡ slice_get ys k) → xs ≡ ys
same-items [] [] size each = refl
same-items [] (y ∷ ys) size each = absurd (omega (arith, size))
same-items (x ∷ xs) [] size each = absurd (omega (arith, size))
same-items (x ∷ xs) (y ∷ ys) size each =
    let first : Some x ≡ Some y = each 0 (omega arith) in
    let rest : xs ≡ ys = same-items xs ys (omega (arith, size)) (λ k h. each (suc k) (omega (arith, h))) in
    cc

-- Tests on the elements.

pick-passes : {X : Type 0} (p : X → Bool) (y : X) (rest : Option X) (x : X) (b : Bool) → p y ≡ b → (rest ≡ Some x → p x ≡ true) → cond b (Some y) rest ≡ Some x → p x ≡ true
pick-passes p y rest x true e ih h = let same : y ≡ x = cc in subst (λ v. p v ≡ true) same e
pick-passes p y rest x false e ih h = ih h

-- what is found passes the test
pub find-passes : {X : Type 0} (p : X → Bool) (xs : List X) (x : X) → find p xs ≡ Some x → p x ≡ true
find-passes p [] x h = cc
find-passes p (y ∷ ys) x h = pick-passes p y (find p ys) x (p y) refl (find-passes p ys x) h

pub same-bytes : (xs : List ℕ) → bytes_eq xs xs ≡ true
same-bytes [] = refl
same-bytes (x ∷ xs) = rw (eq-eqb x x refl) (same-bytes xs)
