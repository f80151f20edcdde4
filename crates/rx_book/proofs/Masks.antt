-- The set of the deaths of some items, as a mask.
use Rattle.std.proofs.Common.{◌≡◌, ◌≢◌, ℕ, ◌<◌, ◌≤◌, ◌^◌, ◌==◌, ◌||◌, Bool, true, false, Option, Some, None, List, [], ◌∷◌, ◌++◌, refl, ap, sym, ◌∙◌, arith}
use Rattle.std.specs.Option.{ForSome}
use Rattle.std.specs.Int.{bit_at}
use Rattle.std.proofs.Math.Pow.{pow-lt}
use Rattle.std.proofs.lemmas.Nat.{or_of_16}
use Rattle.std.proofs.lemmas.Nat.Bits.{bit_at-zero, bit_at-pow_same, bit_at-pow_other, bit_at-lt, same_from_bits_below}
use Rattle.std.proofs.lemmas.Bool.{eqb-true, eq-eqb}
use Rattle.rx_base.specs.Sets.{has_bit}
use Rattle.rx_base.proofs.Bits.{has_bit-or}
use Rattle.rx_book.specs.History.{mark_of, is_place, has_death, deaths_in}

pub or_nothing : (b : Bool) → (b || false) ≡ b
or_nothing true = refl
or_nothing false = refl

has_bit-mark : (p : ℕ) (o : Option ℕ) → has_bit (mark_of o) p ≡ is_place p o
has_bit-mark p None = ap (λ (n : ℕ). n == 1) (bit_at-zero p)
has_bit-mark p (Some q) = go (q == p) refl
  where
    go : (t : Bool) → (q == p) ≡ t → has_bit (2 ^ q) p ≡ t
    go true e = let same : q ≡ p = eqb-true q p e in eq-eqb (bit_at (2 ^ q) p) 1 (ap (λ (k : ℕ). bit_at (2 ^ k) p) same ∙ bit_at-pow_same p)
    go false e = ap (λ (n : ℕ). n == 1) (bit_at-pow_other q p (λ same. let t : (q == p) ≡ true = eq-eqb q p (sym same) in cc))

mark-small : (o : Option ℕ) → ForSome o (λ p. p ≤ 15) → mark_of o < 2 ^ 16
mark-small None small = omega arith
mark-small (Some p) small = let low : p ≤ 15 = small p refl in let h : p < 16 = omega arith in pow-lt h

module _ {I : Type 0} (place : I → Option ℕ) where
  -- bit p of the mask tells whether the death of p stands among the items
  pub has_bit-deaths_in : (xs : List I) (p : ℕ) → has_bit (deaths_in place xs) p ≡ has_death place p xs
  has_bit-deaths_in [] p = ap (λ (n : ℕ). n == 1) (bit_at-zero p)
  has_bit-deaths_in (x ∷ xs) p =
      has_bit-or (mark_of (place x)) (deaths_in place xs) p
      ∙ (ap (λ (b : Bool). b || has_bit (deaths_in place xs) p) (has_bit-mark p (place x)) ∙ ap (λ (b : Bool). is_place p (place x) || b) (has_bit-deaths_in xs p))

  -- one item more
  pub has_death-snoc : (p : ℕ) (xs : List I) (x : I) → has_death place p (xs ++ x ∷ []) ≡ (has_death place p xs || is_place p (place x))
  has_death-snoc p [] x = or_nothing (is_place p (place x))
  has_death-snoc p (y ∷ ys) x = go (is_place p (place y)) (has_death-snoc p ys x)
    where
      go : (b : Bool) → has_death place p (ys ++ x ∷ []) ≡ (has_death place p ys || is_place p (place x)) → (b || has_death place p (ys ++ x ∷ [])) ≡ ((b || has_death place p ys) || is_place p (place x))
      go true e = refl
      go false e = e

  module _ (small : (x : I) → ForSome (place x) (λ p. p ≤ 15)) where
    deaths_in-small : (xs : List I) → deaths_in place xs < 2 ^ 16
    deaths_in-small [] = omega arith
    deaths_in-small (x ∷ xs) = or_of_16 (mark_of (place x)) (deaths_in place xs) (mark-small (place x) (small x)) (deaths_in-small xs)

    -- a mask of 16 bits that tells the deaths is the mask of the deaths
    pub deaths_in-mask : (m : ℕ) (xs : List I) → m < 2 ^ 16 → ((p : ℕ) → p < 16 → has_bit m p ≡ has_death place p xs) → m ≡ deaths_in place xs
    deaths_in-mask m xs low tells = same_from_bits_below 16 m (deaths_in place xs) low (deaths_in-small xs) (λ p h. same_bit (bit_at m p) (bit_at (deaths_in place xs) p) (bit_at-lt m p) (bit_at-lt (deaths_in place xs) p) (tells p h ∙ sym (has_bit-deaths_in xs p)))
      where
        same_bit : (a b : ℕ) → a < 2 → b < 2 → (a == 1) ≡ (b == 1) → a ≡ b
        same_bit a b ha hb e = go (b == 1) refl
          where
            go : (t : Bool) → (b == 1) ≡ t → a ≡ b
            go true is = eqb-true a 1 (e ∙ is) ∙ sym (eqb-true b 1 is)
            go false is =
                let no_b : b ≢ 1 = λ same. let t : (b == 1) ≡ true = eq-eqb b 1 same in cc in
                let no_a : a ≢ 1 = λ same. let t : (a == 1) ≡ true = eq-eqb a 1 same in cc in
                omega arith
