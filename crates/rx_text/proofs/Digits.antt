-- Runs of digits.
use Rattle.std.proofs.Common.{◌≡◌, ℕ, ◌+◌, ◌<◌, ◌^◌, ◌/◌, ◌%◌, Bool, true, false, cond, ◌==◌, List, [], ◌∷◌, ◌++◌, length, take, drop, slice_index, zero, suc, refl, ap, sym, ◌∙◌, arith}
use Rattle.std.specs.Char.{is_ascii_digit}
use Rattle.std.specs.Fmt.{decimal, digits, digits_onto, digit_glyph}
use Rattle.std.specs.List.{prefix_len}
use Rattle.std.specs.Str.{all_ascii_digits}
use Rattle.std.specs.Str.Parse.{digits_value}
use Rattle.std.proofs.lemmas.Fmt.{digits_decimal}
use Rattle.std.proofs.lemmas.Str.Parse.{IsNumeralModel, numerals_by_value, tells_all_ascii_digits}
use Rattle.std.proofs.Math.Seq.{take-append_seam, drop-append_seam}
use Rattle.std.proofs.lemmas.Bool.{and_from}
use Rattle.rx_base.proofs.Bools.{and-first, and-second}
use Rattle.rx_text.specs.Numbers.{NoDigitFirst}

pub own : IsNumeralModel (λ ds. all_ascii_digits ds ≡ true) (digits_value 10)
own = numerals_by_value (λ ds. all_ascii_digits ds ≡ true) tells_all_ascii_digits

onto-some : (k n : ℕ) (acc : List ℕ) → 0 < length acc → 0 < length (digits_onto k 10 false n acc)
onto-some zero n acc some = some
onto-some (suc k) n acc some =
    elim (n / 10 == 0) as (λ b. 0 < length (cond b (digit_glyph false (n % 10) ∷ acc) (digits_onto k 10 false (n / 10) (digit_glyph false (n % 10) ∷ acc))))
    [ true ↦ omega arith | false ↦ onto-some k (n / 10) (digit_glyph false (n % 10) ∷ acc) (omega arith) ]

-- each number has some text
pub some-decimal : (n : ℕ) → 0 < length (decimal n)
unfolding digits
some-decimal n =
    elim (n / 10 == 0) as (λ b. 0 < length (cond b (digit_glyph false (n % 10) ∷ []) (digits_onto 63 10 false (n / 10) (digit_glyph false (n % 10) ∷ []))))
    [ true ↦ omega arith | false ↦ onto-some 63 (n / 10) (digit_glyph false (n % 10) ∷ []) (omega arith) ]

-- each byte of a number's text is a digit
pub all-digits : (n : ℕ) → n < 2 ^ 64 → all_ascii_digits (decimal n) ≡ true
all-digits n small = digits_decimal own n small

glyph-digit : (n : ℕ) → is_ascii_digit (digit_glyph false (n % 10)) ≡ true
glyph-digit n = by (n % 10) (omega arith)
  where
    by : (d : ℕ) → d < 10 → is_ascii_digit (digit_glyph false d) ≡ true
    by zero h = refl
    by (suc zero) h = refl
    by (suc (suc zero)) h = refl
    by (suc (suc (suc zero))) h = refl
    by (suc (suc (suc (suc zero)))) h = refl
    by (suc (suc (suc (suc (suc zero))))) h = refl
    by (suc (suc (suc (suc (suc (suc zero)))))) h = refl
    by (suc (suc (suc (suc (suc (suc (suc zero))))))) h = refl
    by (suc (suc (suc (suc (suc (suc (suc (suc zero)))))))) h = refl
    by (suc (suc (suc (suc (suc (suc (suc (suc (suc zero))))))))) h = refl
    by (suc (suc (suc (suc (suc (suc (suc (suc (suc (suc d)))))))))) h = absurd (omega arith)

onto-digits : (k n : ℕ) (acc : List ℕ) → all_ascii_digits acc ≡ true → all_ascii_digits (digits_onto k 10 false n acc) ≡ true
onto-digits zero n acc all = all
onto-digits (suc k) n acc all =
    let more = and_from (is_ascii_digit (digit_glyph false (n % 10))) (all_ascii_digits acc) (glyph-digit n) all in
    elim (n / 10 == 0) as (λ b. all_ascii_digits (cond b (digit_glyph false (n % 10) ∷ acc) (digits_onto k 10 false (n / 10) (digit_glyph false (n % 10) ∷ acc))) ≡ true)
    [ true ↦ more | false ↦ onto-digits k (n / 10) (digit_glyph false (n % 10) ∷ acc) more ]

-- so is each byte of any number's text
pub digits-all : (n : ℕ) → all_ascii_digits (decimal n) ≡ true
unfolding digits
digits-all n = onto-digits 64 n [] refl

-- a run of digits goes as far as its digits
pub run-of : (ds rest : List ℕ) → all_ascii_digits ds ≡ true → NoDigitFirst rest → prefix_len is_ascii_digit (ds ++ rest) ≡ length ds
run-of [] [] digits last = refl
run-of [] (r ∷ rest) digits last = rw last refl
run-of (d ∷ ds) rest digits last =
    let here : is_ascii_digit d ≡ true = and-first (is_ascii_digit d) (all_ascii_digits ds) digits in
    let more = run-of ds rest (and-second (is_ascii_digit d) (all_ascii_digits ds) digits) last in
    rw here (omega (arith, more))

stops : (x : ℕ) (xs : List ℕ) (b : Bool) → is_ascii_digit x ≡ b → NoDigitFirst (drop (prefix_len is_ascii_digit xs) xs) → NoDigitFirst (drop (cond b (1 + prefix_len is_ascii_digit xs) 0) (x ∷ xs))
stops x xs true is more = let one : 1 + prefix_len is_ascii_digit xs ≡ suc (prefix_len is_ascii_digit xs) = omega arith in rw one more
stops x xs false is more = is

-- after a run of digits no digit stands
pub run-stops : (xs : List ℕ) → NoDigitFirst (drop (prefix_len is_ascii_digit xs) xs)
run-stops [] = refl
run-stops (x ∷ xs) = stops x xs (is_ascii_digit x) refl (run-stops xs)

-- the first byte of a text of digits is one
pub digit-first : (ds rest : List ℕ) → 0 < length ds → all_ascii_digits ds ≡ true → is_ascii_digit (slice_index (ds ++ rest) 0) ≡ true
digit-first [] rest some digits = absurd (omega arith)
digit-first (d ∷ ds) rest some digits = and-first (is_ascii_digit d) (all_ascii_digits ds) digits

-- where two texts begin with runs of digits and are one, the runs are one
pub one-run : (ds es x y : List ℕ) → all_ascii_digits ds ≡ true → all_ascii_digits es ≡ true → NoDigitFirst x → NoDigitFirst y → ds ++ x ≡ es ++ y → (ds ≡ es) × (x ≡ y)
one-run ds es x y all_d all_e no_x no_y same =
    let long : length ds ≡ length es = sym (run-of ds x all_d no_x) ∙ ap (prefix_len is_ascii_digit) same ∙ run-of es y all_e no_y in
    let front : ds ≡ es = sym (take-append_seam ds x) ∙ ap (λ k. take k (ds ++ x)) long ∙ ap (take (length es)) same ∙ take-append_seam es y in
    let back : x ≡ y = sym (drop-append_seam ds x) ∙ ap (λ k. drop k (ds ++ x)) long ∙ ap (drop (length es)) same ∙ drop-append_seam es y in
    (front, back)
