-- The bits of a set that a place above all others joins.
use Rattle.std.proofs.Common.{◌≡◌, ℕ, ◌+◌, ◌-◌, ◌*◌, ◌<◌, ◌≤◌, ◌^◌, Bool, true, false, ◌==◌, ◌||◌, nat_lt, zero, suc, refl, ap, sym, ◌∙◌, arith}
use Rattle.std.specs.Int.{bit_at}
use Rattle.std.proofs.Math.Nat.{pow-le-pow_right}
use Rattle.std.proofs.lemmas.Bool.{eqb-true, eq-eqb, ltb-true, ltb-false}
use Rattle.std.proofs.lemmas.Nat.Bits.{bit_at-suc, bit_at-zero, bit_at_cat_low, bit_at_cat_high, bit_at_above}
use Rattle.rx_base.specs.Sets.{has_bit}

pub pow-le : (p q : ℕ) → p ≤ q → 2 ^ p ≤ 2 ^ q
pow-le p q h = pow-le-pow_right {n = 2} (omega arith) h

-- a bit more
bit-one : (i : ℕ) → bit_at 1 (suc i) ≡ 0
bit-one i = bit_at-suc 1 i ∙ bit_at-zero i

power-on : (m p : ℕ) → m + 2 ^ p ≡ 1 * 2 ^ p + m
power-on m p = omega arith

pub bit-same : (m p : ℕ) → m < 2 ^ p → has_bit (m + 2 ^ p) p ≡ true
bit-same m p low =
    let gap : p - p ≡ 0 = omega arith in
    let is : bit_at (m + 2 ^ p) p ≡ 1 = ap (λ n. bit_at n p) (power-on m p) ∙ bit_at_cat_high 1 p m p low (omega arith) ∙ ap (bit_at 1) gap in
    eq-eqb _ 1 is

pub bit-below : (m p i : ℕ) → i < p → has_bit (m + 2 ^ p) i ≡ has_bit m i
bit-below m p i below = ap (λ b. b == 1) (ap (λ n. bit_at n i) (power-on m p) ∙ bit_at_cat_low 1 p m i below)

pub bit-above : (m p i : ℕ) → m < 2 ^ p → p < i → has_bit (m + 2 ^ p) i ≡ false
bit-above m p i low above =
    let gap : i - p ≡ suc (i - p - 1) = omega arith in
    ap (λ b. b == 1) (ap (λ n. bit_at n i) (power-on m p) ∙ bit_at_cat_high 1 p m i low (omega arith) ∙ ap (bit_at 1) gap ∙ bit-one (i - p - 1))

pub bit-high : (m p i : ℕ) → m < 2 ^ p → p ≤ i → has_bit m i ≡ false
bit-high m p i low above = ap (λ b. b == 1) (bit_at_above m p i low above)

-- each bit of a set that a place above all others joined
pub joined-bit : (m p i : ℕ) → m < 2 ^ p → has_bit (m + 2 ^ p) i ≡ (has_bit m i || (p == i))
joined-bit m p i low = by (p == i) refl
  where
    or-false : (b : Bool) → b ≡ (b || false)
    or-false true = refl
    or-false false = refl

    or-true : (b : Bool) → true ≡ (b || true)
    or-true true = refl
    or-true false = refl

    side : (b : Bool) → nat_lt i p ≡ b → (p ≡ i → ⊥) → has_bit (m + 2 ^ p) i ≡ has_bit m i
    side true h apart = bit-below m p i (ltb-true i p h)
    side false h apart = let at : p ≤ i = ltb-false i p h in let over : p < i = omega (arith, apart) in bit-above m p i low over ∙ sym (bit-high m p i low at)

    by : (b : Bool) → (p == i) ≡ b → has_bit (m + 2 ^ p) i ≡ (has_bit m i || b)
    by true e = ap (has_bit (m + 2 ^ p)) (sym (eqb-true p i e)) ∙ bit-same m p low ∙ or-true (has_bit m i)
    by false e = side (nat_lt i p) refl (λ h. (let t : (p == i) ≡ true = eq-eqb p i h in cc)) ∙ or-false (has_bit m i)

pub joined-low : (m p places : ℕ) → m < 2 ^ p → p < places → m + 2 ^ p < 2 ^ places
joined-low m p places low below = by places below
  where
    by : (q : ℕ) → p < q → m + 2 ^ p < 2 ^ q
    by zero h = absurd (omega arith)
    by (suc q) h = let least : 2 ^ p ≤ 2 ^ q = pow-le p q (omega arith) in omega arith
