-- How numbers are written, and where one stands.
use Rattle.std.specs.Prelude.{◌≡◌, ℕ, ◌≤◌, false, List, ◌++◌, length, drop, slice_index, ℤ, FitsSigned}
use Rattle.std.specs.Int.{w64}
use Rattle.std.specs.Char.{is_ascii_digit}
use Rattle.std.specs.Fmt.{decimal, signed_decimal}

-- a number: its decimal digits, with `-` in front where it is below 0
abbrev pub number_text : ℤ → List ℕ
number_text n = signed_decimal n

-- a number that has no sign: its decimal digits
abbrev pub natural_text : ℕ → List ℕ
natural_text n = decimal n

-- no digit stands in front
abbrev pub NoDigitFirst : List ℕ → Type 0
NoDigitFirst bytes = is_ascii_digit (slice_index bytes 0) ≡ false

-- the number n of 64 bits stands at `start`, ends at `end`, and no digit of the run is left out
pub record StandsAt (bytes : List ℕ) (start : ℕ) (n : ℤ) (end : ℕ) : Type 0 where
  pub fits : FitsSigned w64 n
  pub spelled : drop start bytes ≡ number_text n ++ drop end bytes
  pub within : end ≤ length bytes
  pub last : NoDigitFirst (drop end bytes)
