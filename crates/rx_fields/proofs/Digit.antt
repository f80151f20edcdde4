-- A few digits as a number.
use Rattle.std.proofs.Common.{◌≡◌, ℕ, ◌-◌, ◌<◌, ◌≤◌, ◌^◌, true, List, ◌++◌, length, take, drop, slice_index, ap, sym, ◌∙◌, arith, length-take}
use Rattle.std.specs.Char.{is_ascii_digit}
use Rattle.std.specs.List.{prefix_len}
use Rattle.std.specs.Str.{all_ascii_digits}
use Rattle.std.specs.Str.Parse.{digits_value}
use Rattle.std.proofs.lemmas.Bool.Decides.{nat_tests}
use Rattle.std.proofs.lemmas.List.{take_rest}
use Rattle.std.proofs.lemmas.Str.Parse.{digits_value_short}
use Rattle.rx_text.proofs.Digits.{own}
use Rattle.rx_text.specs.Numbers.{natural_text}
use Rattle.rx_text.proofs.Scanning.{is-spelling, front-is}

-- a few digits are a number below 10 ^ 9
pub few-low : (w : List ℕ) (k n : ℕ) → k ≤ 8 → all_ascii_digits (take k w) ≡ true → n ≡ digits_value 10 (take k w) → n < 10 ^ 8
few-low w k n short all is =
    let low = digits_value_short own (take k w) 8 all (omega (arith, length-take k w)) in
    omega (arith, low)

-- one digit is a spelling
pub one_spelling : (bytes : List ℕ) (len : ℕ) → (len ≡ 0 → ⊥) → len ≤ 1 → is-spelling bytes len ≡ true
one_spelling bytes len some few = grind (arith, nat_tests)

-- so are digits that do not begin with 0
pub other_spelling : (bytes : List ℕ) (len : ℕ) → (len ≡ 0 → ⊥) → (slice_index bytes 0 ≡ 48 → ⊥) → is-spelling bytes len ≡ true
other_spelling bytes len some first = grind (arith, nat_tests)

-- the digits in front, where they are a spelling, are the text of their number
pub front_digits : (bytes : List ℕ) (n len : ℕ) → len ≤ 9 → n ≡ digits_value 10 (take len bytes) → len ≡ prefix_len is_ascii_digit bytes → is-spelling bytes len ≡ true
    → bytes ≡ natural_text n ++ take (length bytes - len) (drop len bytes)
front_digits bytes n len few value run spelling =
    (front-is bytes n len run (omega arith) value spelling).0 ∙ ap (λ r. natural_text n ++ r) (sym (take_rest bytes len))
