-- Items of lists by number, and lists that begin with others.
use Rattle.std.proofs.Common.{◌≡◌, ℕ, zero, suc, ◌+◌, ◌<◌, ◌≤◌, List, [], ◌∷◌, ◌++◌, map, length, slice_get, slice_set, Option, Some, None, refl, arith, ap, sym, ◌∙◌}
use mathlib.Core.List.{IsPrefix}
use Rattle.rx_base.proofs.Elements.{get-set}

pub one_item : {X : Type 0} (o : Option X) (x y : X) → o ≡ Some x → o ≡ Some y → x ≡ y
one_item o x y h k = let e : Some x ≡ Some y = sym h ∙ k in cc

pub not_none : {X : Type 0} (o : Option X) (x : X) → o ≡ Some x → o ≡ None → ⊥
not_none o x h k = let e : Some x ≡ None = sym h ∙ k in cc

pub inside : {X : Type 0} (xs : List X) (k : ℕ) (x : X) → slice_get xs k ≡ Some x → k < length xs
inside [] k x h = cc
inside (y ∷ ys) zero x h = omega arith
inside (y ∷ ys) (suc k) x h = let r : k < length ys = inside ys k x h in omega arith

pub outside : {X : Type 0} (xs : List X) (k : ℕ) → slice_get xs k ≡ None → length xs ≤ k
outside [] k h = omega arith
outside (y ∷ ys) zero h = cc
outside (y ∷ ys) (suc k) h = let r : length ys ≤ k = outside ys k h in omega arith

pub past : {X : Type 0} (xs : List X) (k : ℕ) → length xs ≤ k → slice_get xs k ≡ None
past [] k h = refl
past (y ∷ ys) zero h = absurd (omega arith)
past (y ∷ ys) (suc k) h = past ys k (omega arith)

pub got_set : {X : Type 0} (xs : List X) (k : ℕ) (x y : X) → slice_get xs k ≡ Some x → slice_get (slice_set xs k y) k ≡ Some y
got_set xs k x y h = get-set xs k y (inside xs k x h)

pub got_map : {X Y : Type 0} (f : X → Y) (xs : List X) (k : ℕ) (x : X) → slice_get xs k ≡ Some x → slice_get (map f xs) k ≡ Some (f x)
got_map f [] k x h = cc
got_map f (y ∷ ys) zero x h = let e : y ≡ x = cc in ap (λ z. Some (f z)) e
got_map f (y ∷ ys) (suc k) x h = got_map f ys k x h

pub got_right : {X : Type 0} (xs ys : List X) (k : ℕ) → slice_get (xs ++ ys) (length xs + k) ≡ slice_get ys k
got_right [] ys k = let e : 0 + k ≡ k = omega arith in ap (slice_get ys) e
got_right (x ∷ xs) ys k = let e : length (x ∷ xs) + k ≡ suc (length xs + k) = omega arith in ap (slice_get (x ∷ xs ++ ys)) e ∙ got_right xs ys k

-- Lists that begin with others.

-- nothing begins the empty list but itself
pub prefix_none : {X : Type 0} (xs ys : List X) → ys ≡ [] → IsPrefix xs ys → xs ≡ []
prefix_none [] ys e h = refl
prefix_none (x ∷ xs) ys e h = absurd (let f : x ∷ (xs ++ h.0) ≡ [] = h.1 ∙ e in cc)
