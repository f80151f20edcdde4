-- The least number of a set, as numbers are put in and taken out.
use Rattle.std.proofs.Common.{◌≡◌, ℕ, ◌<◌, ◌≤◌, not, eqb, ltb, List, [], ◌∷◌, length, Option, Some, None, slice_get, refl, arith, ap, sym, ◌∙◌, inl, inr}
use Rattle.std.proofs.lemmas.Bool.{cases_lt, cond-true, cond-false, lt-ltb, le-ltb, ne_eqb, eq-eqb}
use Rattle.std.proofs.lemmas.Option.{none-some, same_Some}
use Rattle.rx_rank.specs.Numbers.{inserted, removed}

-- a set without numbers has no least
pub none-least : (ns : List ℕ) → length ns ≡ 0 → None ≡ slice_get ns 0
none-least [] e = refl
none-least (n ∷ ns) e = absurd (omega arith)

-- a number put into a set without numbers, before the least, and after it
pub put-alone : (x : ℕ) (ns : List ℕ) → None ≡ slice_get ns 0 → Some x ≡ slice_get (inserted x ns) 0
unfolding inserted
put-alone x [] e = refl
put-alone x (n ∷ ns) e = absurd (none-some n e)

pub put-before : (x y : ℕ) (ns : List ℕ) → Some y ≡ slice_get ns 0 → x ≤ y → Some x ≡ slice_get (inserted x ns) 0
unfolding inserted
put-before x y [] e l = refl
put-before x y (n ∷ ns) e l =
    let same : y ≡ n = same_Some y n e in
    let head : List ℕ → Option ℕ = λ ms. slice_get ms 0 in
    elim (cases_lt x n) [
      | inl low ↦ sym (ap head (cond-true (ltb x n) _ _ (lt-ltb x n low)))
      | inr past ↦
          let here : x ≡ n = omega arith in
          ap (λ z. Some z) here ∙ sym (ap head (cond-false (ltb x n) _ _ (le-ltb x n past) ∙ cond-true (eqb x n) _ _ (eq-eqb x n here)))
    ]

pub put-after : (x y : ℕ) (ns : List ℕ) → Some y ≡ slice_get ns 0 → y < x → Some y ≡ slice_get (inserted x ns) 0
unfolding inserted
put-after x y [] e l = absurd (none-some y (sym e))
put-after x y (n ∷ ns) e l =
    let same : y ≡ n = same_Some y n e in
    let low : n < x = omega arith in
    e ∙ sym (ap (λ (ms : List ℕ). slice_get ms 0) (cond-false (ltb x n) _ _ (le-ltb x n (omega arith)) ∙ cond-false (eqb x n) _ _ (ne_eqb x n (λ o. omega arith))))

-- another number than the least taken out
pub take-other : (x : ℕ) (least : Option ℕ) (ns : List ℕ) → least ≡ slice_get ns 0 → (least ≡ Some x → ⊥) → least ≡ slice_get (removed x ns) 0
take-other x least [] e ne = e
take-other x least (n ∷ ns) e ne =
    let other : n ≡ x → ⊥ = λ o. ne (e ∙ ap (λ z. Some z) o) in
    e ∙ sym (ap (λ (ms : List ℕ). slice_get ms 0) (cond-true (not (eqb n x)) _ _ (ap not (ne_eqb n x other))))
