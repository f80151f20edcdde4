-- `bit_or` as the union of sets of bits.
use Rattle.std.proofs.Common.{◌≡◌, ℕ, ◌<◌, true, sym, ap, ◌∙◌, arith, bit_or, max}
use Rattle.std.specs.Int.{bit_at}
use Rattle.std.specs.Int.Bits.{or_self}
use Rattle.std.proofs.lemmas.Nat.Bits.{bit_at_or, bit_at-lt, same_from_bits}
use Rattle.std.proofs.lemmas.Bool.{eqb-true, eq-eqb}
use Rattle.rx_base.specs.Sets.{has_bit}

max_assoc : (a b c : ℕ) → max (max a b) c ≡ max a (max b c)
max_assoc a b c = omega arith

pub bit_or_assoc : (a b c : ℕ) → bit_or (bit_or a b) c ≡ bit_or a (bit_or b c)
bit_or_assoc a b c = same_from_bits _ _ (λ i.
    let l : bit_at (bit_or (bit_or a b) c) i ≡ max (max (bit_at a i) (bit_at b i)) (bit_at c i) = bit_at_or (bit_or a b) c i ∙ ap (λ (n : ℕ). max n (bit_at c i)) (bit_at_or a b i) in
    let r : bit_at (bit_or a (bit_or b c)) i ≡ max (bit_at a i) (max (bit_at b i) (bit_at c i)) = bit_at_or a (bit_or b c) i ∙ ap (λ (n : ℕ). max (bit_at a i) n) (bit_at_or b c i) in
    l ∙ (max_assoc (bit_at a i) (bit_at b i) (bit_at c i) ∙ sym r))

-- what was added stays
pub bit_or_absorbs : (a b : ℕ) → bit_or a (bit_or a b) ≡ bit_or a b
bit_or_absorbs a b = sym (bit_or_assoc a a b) ∙ ap (λ (n : ℕ). bit_or n b) (or_self a)

-- a bit of the smaller set is one of the greater
pub has_bit_more : (a b p : ℕ) → bit_or a b ≡ b → has_bit a p ≡ true → has_bit b p ≡ true
has_bit_more a b p more has =
    let both : max (bit_at a p) (bit_at b p) ≡ bit_at b p = sym (bit_at_or a b p) ∙ ap (λ (n : ℕ). bit_at n p) more in
    let one : bit_at a p ≡ 1 = eqb-true (bit_at a p) 1 has in
    let low : bit_at b p < 2 = bit_at-lt b p in
    let is : bit_at b p ≡ 1 = omega arith in eq-eqb (bit_at b p) 1 is
