-- Laws of the spelling: what was written stands where it was written, and each number and path has a text of its own.
use Rattle.std.specs.Prelude.{◌≡◌, ℕ, ◌+◌, ◌<◌, ◌^◌, List, ◌++◌, length, ℤ, FitsSigned, All}
use Rattle.std.specs.Int.{w64}
use Rattle.rx_text.specs.Numbers.{number_text, natural_text, NoDigitFirst, StandsAt}
use Rattle.rx_text.specs.Paths.{path_text, NoPathFirst}

-- a number that was written stands where it was written, up to its end
abbrev pub WrittenNumbersStand : Type 0
WrittenNumbersStand = (before rest : List ℕ) (n : ℤ) → FitsSigned w64 n → NoDigitFirst rest
    → StandsAt (before ++ number_text n ++ rest) (length before) n (length before + length (number_text n))

-- where two texts begin with numbers and are one, the numbers are one, and so is what follows
abbrev pub NumbersHaveOneText : Type 0
NumbersHaveOneText = (m n : ℤ) (x y : List ℕ) → FitsSigned w64 m → FitsSigned w64 n → NoDigitFirst x → NoDigitFirst y
    → number_text m ++ x ≡ number_text n ++ y → (m ≡ n) × (x ≡ y)

-- the same of numbers that have no sign
abbrev pub NaturalsHaveOneText : Type 0
NaturalsHaveOneText = (m n : ℕ) (x y : List ℕ) → m < 2 ^ 64 → n < 2 ^ 64 → NoDigitFirst x → NoDigitFirst y
    → natural_text m ++ x ≡ natural_text n ++ y → (m ≡ n) × (x ≡ y)

-- and of paths
abbrev pub PathsHaveOneText : Type 0
PathsHaveOneText = (p q : List ℕ) (x y : List ℕ) → All (λ n. n < 2 ^ 32) p → All (λ n. n < 2 ^ 32) q → NoPathFirst x → NoPathFirst y
    → path_text p ++ x ≡ path_text q ++ y → (p ≡ q) × (x ≡ y)
