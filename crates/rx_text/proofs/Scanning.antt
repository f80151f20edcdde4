-- Digits that are read one after another.
use Rattle.std.proofs.Common.{◌≡◌, ℕ, ◌+◌, ◌*◌, ◌-◌, ◌<◌, ◌≤◌, ◌^◌, true, false, List, [], ◌∷◌, ◌++◌, length, take, drop, slice_index, zero, suc, refl, ap, sym, ◌∙◌, arith, length-take, subst, Bool, cond, nat_lt, nat_le, not, ◌&&◌, ◌==◌, get_or, length-append, length-drop, Option, Some, None, ℤ, pos, negsuc, FitsSigned}
use Rattle.std.specs.Char.{is_ascii_digit, digit_value}
use Rattle.std.specs.Fmt.{decimal}
use Rattle.std.specs.Int.{w64}
use mir.Val.{to_z, of_z}
use Rattle.std.proofs.lemmas.Bool.{lt-ltb}
use Rattle.std.proofs.lemmas.Int.{to_z-of_z}
use Rattle.std.specs.List.{prefix_len}
use Rattle.std.specs.Str.{all_ascii_digits}
use Rattle.std.specs.Str.Parse.{digits_value}
use Rattle.std.proofs.lemmas.Bool.{and_from}
use Rattle.std.proofs.lemmas.Bool.Decides.{nat_tests}
use Rattle.std.proofs.lemmas.Fmt.{decimal_digit, decimal-digits_value, digits_value-decimal, first_decimal, length-decimal-le}
use Rattle.std.proofs.Math.Seq.{take-append_seam}
use Rattle.std.proofs.lemmas.Int.Digits.{digits_value_more}
use Rattle.std.proofs.lemmas.List.{drop_all, take-append-drop}
use Rattle.std.proofs.lemmas.Option.{same_Some}
use Rattle.std.proofs.lemmas.Str.{digit_value_digit}
use Rattle.std.proofs.lemmas.Str.Parse.{digits_value_short}
use Rattle.rx_base.proofs.Bools.{and-first, and-second}
use Rattle.rx_text.specs.Numbers.{natural_text, NoDigitFirst, StandsAt}
use Rattle.rx_text.proofs.Digits.{own, run-of, run-stops, digits-all, digit-first, some-decimal}

-- one digit more
pub digits-more : (bytes : List ℕ) (k : ℕ) → k < length bytes → all_ascii_digits (take k bytes) ≡ true → is_ascii_digit (slice_index bytes k) ≡ true → all_ascii_digits (take (suc k) bytes) ≡ true
digits-more [] k h all one = absurd (omega arith)
digits-more (b ∷ bs) zero h all one = and_from (is_ascii_digit b) true one refl
digits-more (b ∷ bs) (suc k) h all one =
    and_from (is_ascii_digit b) (all_ascii_digits (take (suc k) bs)) (and-first (is_ascii_digit b) (all_ascii_digits (take k bs)) all)
    (digits-more bs k (omega arith) (and-second (is_ascii_digit b) (all_ascii_digits (take k bs)) all) one)

-- so many digits are not all of a longer run
pub run-longer : (bytes : List ℕ) (k : ℕ) → k ≤ length bytes → all_ascii_digits (take k bytes) ≡ true → k ≤ prefix_len is_ascii_digit bytes
run-longer [] k h all = omega arith
run-longer (b ∷ bs) zero h all = omega arith
run-longer (b ∷ bs) (suc k) h all =
    let here : is_ascii_digit b ≡ true = and-first (is_ascii_digit b) (all_ascii_digits (take k bs)) all in
    let more = run-longer bs k (omega arith) (and-second (is_ascii_digit b) (all_ascii_digits (take k bs)) all) in
    rw here (omega (arith, more))

pub front-of : (k : ℕ) (bytes : List ℕ) → slice_index (drop k bytes) 0 ≡ slice_index bytes k
front-of zero bytes = refl
front-of (suc k) [] = refl
front-of (suc k) (b ∷ bs) = front-of k bs

-- digits that no digit follows are the run
pub run-ends : (bytes : List ℕ) (k : ℕ) → k ≤ length bytes → all_ascii_digits (take k bytes) ≡ true → NoDigitFirst (drop k bytes) → k ≡ prefix_len is_ascii_digit bytes
run-ends bytes k h all stop =
    let long : length (take k bytes) ≡ k = omega (arith, length-take k bytes) in
    sym long ∙ sym (run-of (take k bytes) (drop k bytes) all stop) ∙ ap (prefix_len is_ascii_digit) (take-append-drop k bytes)

-- a byte that is no digit follows
pub run-ends-at : (bytes : List ℕ) (k : ℕ) → k ≤ length bytes → all_ascii_digits (take k bytes) ≡ true → is_ascii_digit (slice_index bytes k) ≡ false → k ≡ prefix_len is_ascii_digit bytes
run-ends-at bytes k h all stop = run-ends bytes k h all (ap is_ascii_digit (front-of k bytes) ∙ stop)

-- no byte follows
pub run-ends-all : (bytes : List ℕ) (k : ℕ) → k ≤ length bytes → length bytes ≤ k → all_ascii_digits (take k bytes) ≡ true → k ≡ prefix_len is_ascii_digit bytes
run-ends-all bytes k h all_there all = run-ends bytes k h all (ap (λ t. is_ascii_digit (slice_index t 0)) (drop_all k bytes all_there))

-- a digit's value
digit-value : (d : ℕ) → is_ascii_digit d ≡ true → digit_value d + 48 ≡ d
digit-value d is = digit_value_digit d (grind (arith, nat_tests))

-- the number of one digit more
pub value-more : (bytes : List ℕ) (k n d : ℕ) → k < length bytes → n ≡ digits_value 10 (take k bytes) → is_ascii_digit (slice_index bytes k) ≡ true → d ≡ slice_index bytes k - 48 → n * 10 + d ≡ digits_value 10 (take (k + 1) bytes)
value-more bytes k n d h is digit of = omega (arith, digits_value_more 10 bytes k h, digit-value (slice_index bytes k) digit)

-- the number of eighteen digits
pub value-low : (bytes : List ℕ) (k n : ℕ) → k ≤ 18 → all_ascii_digits (take k bytes) ≡ true → n ≡ digits_value 10 (take k bytes) → n < 10 ^ 18
value-low bytes k n short all is =
    let low = digits_value_short own (take k bytes) 18 all (omega (arith, length-take k bytes)) in
    omega (arith, low)

run-digits-on : (b : ℕ) (bs : List ℕ) (t : Bool) → is_ascii_digit b ≡ t → all_ascii_digits (take (prefix_len is_ascii_digit bs) bs) ≡ true → all_ascii_digits (take (cond t (1 + prefix_len is_ascii_digit bs) 0) (b ∷ bs)) ≡ true
run-digits-on b bs false is more = refl
run-digits-on b bs true is more =
    let one : 1 + prefix_len is_ascii_digit bs ≡ suc (prefix_len is_ascii_digit bs) = omega arith in
    rw one (and_from (is_ascii_digit b) (all_ascii_digits (take (prefix_len is_ascii_digit bs) bs)) is more)

-- the bytes of a run are digits
run-digits : (bytes : List ℕ) → all_ascii_digits (take (prefix_len is_ascii_digit bytes) bytes) ≡ true
run-digits [] = refl
run-digits (b ∷ bs) = run-digits-on b bs (is_ascii_digit b) refl (run-digits bs)

run-within-on : (b : ℕ) (bs : List ℕ) (t : Bool) → prefix_len is_ascii_digit bs ≤ length bs → cond t (1 + prefix_len is_ascii_digit bs) 0 ≤ length (b ∷ bs)
run-within-on b bs false more = omega arith
run-within-on b bs true more = omega arith

run-within : (bytes : List ℕ) → prefix_len is_ascii_digit bytes ≤ length bytes
run-within [] = omega arith
run-within (b ∷ bs) = run-within-on b bs (is_ascii_digit b) (run-within bs)

first-taken : (len : ℕ) (bytes : List ℕ) → 0 < len → get_or (take len bytes) 0 0 ≡ get_or bytes 0 0
first-taken zero bytes some = absurd (omega arith)
first-taken (suc len) [] some = refl
first-taken (suc len) (b ∷ bs) some = refl

-- whether so many digits are a spelling
abbrev pub is-spelling : List ℕ → ℕ → Bool
is-spelling bytes len = nat_lt 0 len && not (nat_lt 1 len && (slice_index bytes 0 == 48))

spelling-some : (bytes : List ℕ) (len : ℕ) → is-spelling bytes len ≡ true → (0 < len) × (get_or bytes 0 0 ≡ 48 → len ≡ 1)
spelling-some bytes len is = (grind (arith, nat_tests), grind (arith, nat_tests))

spelling-from : (bytes : List ℕ) (len : ℕ) → 0 < len → (get_or bytes 0 0 ≡ 48 → len ≡ 1) → is-spelling bytes len ≡ true
spelling-from bytes len some lead = grind (arith, nat_tests)

first-joined : (ds rest : List ℕ) → 0 < length ds → get_or (ds ++ rest) 0 0 ≡ get_or ds 0 0
first-joined [] rest some = absurd (omega arith)
first-joined (d ∷ ds) rest some = refl

-- only 0 begins with the digit 0
zero-alone : (n : ℕ) → n < 2 ^ 64 → get_or (decimal n) 0 0 ≡ 48 → length (decimal n) ≡ 1
zero-alone zero small lead = ap length (decimal_digit zero (omega arith))
zero-alone (suc n) small lead = absurd (omega (arith, first_decimal (suc n) (omega arith) small))

-- the digits in front are the spelling of their number
pub front-is : (bytes : List ℕ) (n len : ℕ) → len ≡ prefix_len is_ascii_digit bytes → len ≤ 19 → n ≡ digits_value 10 (take len bytes) → is-spelling bytes len ≡ true → (bytes ≡ decimal n ++ drop len bytes) × NoDigitFirst (drop len bytes)
front-is bytes n len run short value spelling =
    let parts = spelling-some bytes len spelling in
    let all : all_ascii_digits (take len bytes) ≡ true = ap (λ k. all_ascii_digits (take k bytes)) run ∙ run-digits bytes in
    let within : len ≤ length bytes = omega (arith, run-within bytes) in
    let long : length (take len bytes) ≡ len = omega (arith, length-take len bytes) in
    let low : digits_value 10 (take len bytes) < 10 ^ 19 = digits_value_short own (take len bytes) 19 all (omega arith) in
    let text : decimal (digits_value 10 (take len bytes)) ≡ take len bytes =
    decimal-digits_value own (take len bytes) all (omega (arith, parts.0)) (λ z. long ∙ parts.1 (sym (first-taken len bytes parts.0) ∙ z)) (omega arith) in
    let whole : bytes ≡ decimal n ++ drop len bytes = sym (take-append-drop len bytes) ∙ ap (λ t. t ++ drop len bytes) (sym text ∙ ap decimal (sym value)) in
    (whole, (let P : ℕ → Type 0 = λ k. NoDigitFirst (drop k bytes) in subst P (sym run) (run-stops bytes)))

-- what is known of bytes that begin with a number's text
pub record Begins (bytes : List ℕ) (n : ℕ) : Type 0 where
  pub run : prefix_len is_ascii_digit bytes ≡ length (decimal n)
  pub short : length (decimal n) ≤ 19
  pub value : digits_value 10 (take (length (decimal n)) bytes) ≡ n
  pub spelling : is-spelling bytes (length (decimal n)) ≡ true

pub begins : (bytes : List ℕ) (n : ℕ) (rest : List ℕ) → n < 10 ^ 19 → NoDigitFirst rest → bytes ≡ decimal n ++ rest → Begins bytes n
begins bytes n rest low last is =
    let small : n < 2 ^ 64 = omega arith in
    record {
      run = ap (prefix_len is_ascii_digit) is ∙ run-of (decimal n) rest (digits-all n) last;
      short = length-decimal-le 19 n (omega arith) low small;
      value = ap (λ t. digits_value 10 (take (length (decimal n)) t)) is ∙ ap (digits_value 10) (take-append_seam (decimal n) rest) ∙ digits_value-decimal own n small;
      spelling = spelling-from bytes (length (decimal n)) (some-decimal n)
          (λ z. zero-alone n small (sym (first-joined (decimal n) rest (some-decimal n)) ∙ ap (λ t. get_or t 0 0) (sym is) ∙ z));
    }

abbrev pub paired : {A B : Type 0} → A → B → A × B
paired a b = (a, b)

pub pair-found : {A : Type 0} (a b : A) (x y : ℕ) → Some (paired a x) ≡ Some (paired b y) → (a ≡ b) × (x ≡ y)
pair-found {A} a b x y e =
    let same = same_Some (paired a x) (paired b y) e in
    (ap (λ (p : A × ℕ). p.0) same, ap (λ (p : A × ℕ). p.1) same)

pub found : {A : Type 0} (a b : A) (x y : ℕ) → a ≡ b → x ≡ y → Some (paired a x) ≡ Some (paired b y)
found a b x y first second = rw first (rw second refl)

abbrev pub IsExact : List ℕ → Option (ℕ × ℕ) → Type 0
IsExact bytes r = (n : ℕ) (rest : List ℕ) → n < 10 ^ 19 → NoDigitFirst rest → bytes ≡ natural_text n ++ rest → r ≡ Some (n, length (natural_text n))

-- the number that stands in front has no sign
pub record Plain (r : Option (ℕ × ℕ)) (z : ℤ) (end : ℕ) : Type 0 where
  pub n : ℕ
  pub is : z ≡ pos n
  pub low : n < 2 ^ 63
  pub scanned : r ≡ Some (n, end)

pub plain : (bytes : List ℕ) (r : Option (ℕ × ℕ)) (z : ℤ) (end : ℕ) → IsExact bytes r → (slice_index bytes 0 == 45) ≡ false → StandsAt bytes 0 z end → Plain r z end
plain bytes r (negsuc k) end exact apart stands =
    let first : (slice_index bytes 0 == 45) ≡ true = ap (λ t. slice_index t 0 == 45) stands.spelled in
    let clash : false ≡ true = sym apart ∙ first in cc
plain bytes r (pos n) end exact apart stands =
    let low : n < 2 ^ 63 = stands.fits.sfits in
    let within : end ≤ length bytes = stands.within in
    let parts : length bytes ≡ length (decimal n) + (length bytes - end) = ap length stands.spelled ∙ length-append (decimal n) (drop end bytes) ∙ ap (λ k. length (decimal n) + k) (length-drop end bytes) in
    let long : length (decimal n) ≡ end = omega arith in
    record { n = n; is = refl; low = low; scanned = exact n (drop end bytes) (omega arith) stands.last stands.spelled ∙ ap (λ k. Some (paired n k)) long }

-- the number that stands in front has its sign
pub record Signed (r : Option (ℕ × ℕ)) (z : ℤ) (end : ℕ) : Type 0 where
  pub k : ℕ
  pub len : ℕ
  pub is : z ≡ negsuc k
  pub low : k < 2 ^ 63
  pub scanned : r ≡ Some (suc k, len)
  pub long : 1 + len ≡ end

pub signed : (bytes tail : List ℕ) (r : Option (ℕ × ℕ)) (z : ℤ) (end : ℕ) → tail ≡ drop 1 bytes → IsExact tail r → slice_index bytes 0 ≡ 45 → StandsAt bytes 0 z end → Signed r z end
signed bytes tail r (pos n) end rest exact sign stands =
    let low : n < 2 ^ 63 = stands.fits.sfits in
    let digit : is_ascii_digit (slice_index bytes 0) ≡ true = ap (λ t. is_ascii_digit (slice_index t 0)) stands.spelled ∙ digit-first (decimal n) (drop end bytes) (some-decimal n) (digits-all n) in
    let clash : false ≡ true = ap is_ascii_digit (sym sign) ∙ digit in cc
signed bytes tail r (negsuc k) end rest exact sign stands =
    let low : k < 2 ^ 63 = stands.fits.sfits in
    let within : end ≤ length bytes = stands.within in
    let text : tail ≡ decimal (suc k) ++ drop end bytes = rest ∙ ap (drop 1) stands.spelled in
    let parts : length bytes ≡ suc (length (decimal (suc k)) + (length bytes - end)) = ap length stands.spelled ∙ ap suc (length-append (decimal (suc k)) (drop end bytes) ∙ ap (λ m. length (decimal (suc k)) + m) (length-drop end bytes)) in
    record {
      k = k;
      len = length (decimal (suc k));
      is = refl;
      low = low;
      scanned = exact (suc k) (drop end bytes) (omega arith) stands.last text;
      long = omega arith;
    }

-- what the length of the sign says
pub no-sign : (b r : ℕ) → r ≡ cond (b == 45) 1 0 → r ≡ 0 → (b == 45) ≡ false
no-sign b r is none = grind (arith, nat_tests)

pub has-sign : (b r : ℕ) → r ≡ cond (b == 45) 1 0 → (r ≡ 0 → ⊥) → b ≡ 45
has-sign b r is some = grind (arith, nat_tests)

-- a number above the sign is taken
pub above-some : (n m : ℕ) → n ≡ m → m < 2 ^ 63 → cond (nat_lt n (2 ^ 63)) (Some (pos n)) None ≡ Some (pos m)
above-some n m same low = ap (λ b. cond b (Some (pos n)) None) (lt-ltb n (2 ^ 63) (omega arith)) ∙ ap (λ k. Some (pos k)) same

-- a number below 0 is taken
pub below-some : (n k : ℕ) → n ≡ suc k → k < 2 ^ 63 → cond (nat_lt 0 n && nat_le n (2 ^ 63)) (Some (negsuc (n - 1))) None ≡ Some (negsuc k)
below-some n k same low =
    let test : (nat_lt 0 n && nat_le n (2 ^ 63)) ≡ true = grind (arith, nat_tests) in
    let back : n - 1 ≡ k = omega arith in
    ap (λ b. cond b (Some (negsuc (n - 1))) None) test ∙ ap (λ m. Some (negsuc m)) back

-- the number as it is stored
pub stored : (x z : ℤ) (len end : ℕ) → FitsSigned w64 z → x ≡ z → len ≡ end → Some (paired (to_z w64 (of_z w64 x)) len) ≡ Some (paired z end)
stored x z len end fits same long = found (to_z w64 (of_z w64 x)) z len end (ap (λ k. to_z w64 (of_z w64 k)) same ∙ to_z-of_z w64 z fits) long
