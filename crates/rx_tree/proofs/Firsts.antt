-- A change of the row that a walk found.
use Rattle.std.proofs.Common.{◌≡◌, ℕ, suc, zero, ◌<◌, Bool, true, false, List, [], ◌∷◌, length, slice_index_or, slice_set, refl, ap, arith}
use Rattle.rx_rules.proofs.Common.{change_first}
use Rattle.rx_tree.specs.Inside.Positions.{IsFirst, PassesNone}

first_at : {X : Type 0} (p : X → Bool) (f : X → X) (xs : List X) (i : ℕ) (d : X) → i < length xs → p (slice_index_or xs i d) ≡ true → ((k : ℕ) → k < i → p (slice_index_or xs k d) ≡ false) → slice_set xs i (f (slice_index_or xs i d)) ≡ change_first p f xs
first_at p f [] i d h holds before = absurd (omega arith)
first_at p f (x ∷ xs) zero d h holds before = rw holds
first_at p f (x ∷ xs) (suc i) d h holds before =
    let here : p x ≡ false = before zero (omega arith) in
    let inside : i < length xs = omega arith in
    rw here (ap (λ ys. x ∷ ys) (first_at p f xs i d inside holds (λ k below. before (suc k) (omega arith))))

-- at the first that passes
pub at_first : {X : Type 0} (p : X → Bool) (f : X → X) (xs : List X) (i : ℕ) (d : X) → IsFirst p xs i → slice_set xs i (f (slice_index_or xs i d)) ≡ change_first p f xs
at_first p f xs i d h = first_at p f xs i d h.0 (h.1 d) (λ k below. h.2 k d below)

-- where none passes
pub none_changes : {X : Type 0} (p : X → Bool) (f : X → X) (xs : List X) → PassesNone p xs → xs ≡ change_first p f xs
none_changes p f [] h = refl
none_changes p f (x ∷ xs) h =
    let here : p x ≡ false = h zero x (omega arith) in
    rw here (ap (λ ys. x ∷ ys) (none_changes p f xs (λ k d below. h (suc k) d (let more : suc k < suc (length xs) = omega arith in more))))
