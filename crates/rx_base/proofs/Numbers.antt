-- Numbers.
use Rattle.std.proofs.Common.{◌≡◌, ℕ, zero, suc, ◌<◌, ◌==◌, true, refl, arith}
use Rattle.std.proofs.lemmas.Bool.{eq-eqb}

pub eq-refl : (n : ℕ) → (n == n) ≡ true
eq-refl n = eq-eqb n n refl

-- binary digits that are alike in being 1
pub digit-is : (a b : ℕ) → a < 2 → b < 2 → (a == 1) ≡ (b == 1) → a ≡ b
digit-is zero zero low_a low_b same = refl
digit-is zero (suc zero) low_a low_b same = cc
digit-is (suc zero) zero low_a low_b same = cc
digit-is (suc zero) (suc zero) low_a low_b same = refl
digit-is (suc (suc a)) b low_a low_b same = absurd (omega arith)
digit-is zero (suc (suc b)) low_a low_b same = absurd (omega arith)
digit-is (suc zero) (suc (suc b)) low_a low_b same = absurd (omega arith)
