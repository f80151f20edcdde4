-- The digits of short numbers.
use Rattle.std.proofs.Common.{◌≡◌, ℕ, ◌+◌, ◌/◌, ◌%◌, ◌<◌, ◌≤◌, ◌^◌, [], ◌∷◌, ◌++◌, arith, append_assoc}
use Rattle.std.specs.Fmt.{decimal}
use Rattle.std.proofs.lemmas.Fmt.{decimal_digit, decimal_step}

pub one_digit : (n : ℕ) → n < 10 → decimal n ≡ (48 + n % 10) ∷ []
one_digit n small = let same : n % 10 ≡ n = omega arith in rw (decimal_digit n small, same)

pub two_digits : (n : ℕ) → 10 ≤ n → n < 100 → decimal n ≡ (48 + n / 10 % 10) ∷ (48 + n % 10) ∷ []
two_digits n low high = rw (decimal_step n low (omega arith), one_digit (n / 10) (omega arith))

pub three_digits : (n : ℕ) → 100 ≤ n → n < 1000 → decimal n ≡ (48 + n / 100 % 10) ∷ (48 + n / 10 % 10) ∷ (48 + n % 10) ∷ []
three_digits n low high =
    let a : n / 10 / 10 ≡ n / 100 = omega arith in
    rw (decimal_step n (omega arith) (omega arith), two_digits (n / 10) (omega arith) (omega arith), a)

pub four_digits : (n : ℕ) → 1000 ≤ n → n < 10000 → decimal n ≡ (48 + n / 1000 % 10) ∷ (48 + n / 100 % 10) ∷ (48 + n / 10 % 10) ∷ (48 + n % 10) ∷ []
four_digits n low high =
    let a : n / 10 / 10 ≡ n / 100 = omega arith in
    let b : n / 10 / 100 ≡ n / 1000 = omega arith in
    rw (decimal_step n (omega arith) (omega arith), three_digits (n / 10) (omega arith) (omega arith), a, b)

-- the last four digits come after those of what is above them
pub more_digits : (n : ℕ) → 10000 ≤ n → n < 2 ^ 32 → decimal n ≡ decimal (n / 10000)
    ++ (48 + n % 10000 / 1000 % 10) ∷ (48 + n % 10000 / 100 % 10) ∷ (48 + n % 10000 / 10 % 10) ∷ (48 + n % 10000 % 10) ∷ []
more_digits n low high =
    let a : n / 10 / 10 / 10 / 10 ≡ n / 10000 = omega arith in
    let d : n / 10 / 10 / 10 % 10 ≡ n % 10000 / 1000 % 10 = omega arith in
    let e : n / 10 / 10 % 10 ≡ n % 10000 / 100 % 10 = omega arith in
    let f : n / 10 % 10 ≡ n % 10000 / 10 % 10 = omega arith in
    let g : n % 10 ≡ n % 10000 % 10 = omega arith in
    rw (
      decimal_step n (omega arith) (omega arith),
      decimal_step (n / 10) (omega arith) (omega arith),
      decimal_step (n / 10 / 10) (omega arith) (omega arith),
      decimal_step (n / 10 / 10 / 10) (omega arith) (omega arith),
      append_assoc,
      append_assoc,
      append_assoc,
      a,
      d,
      e,
      f,
      g,
    )
