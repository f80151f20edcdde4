-- The number that a word spells.
use Rattle.std.proofs.Common.{◌≡◌, ℕ, ◌<◌, ◌≤◌, ◌^◌, Bool, true, false, nat_lt, List, Some, None, refl, ap, sym, ◌∙◌, arith, length, ◌++◌, append-nil, ℤ, pos, negsuc, nat_le, ◌&&◌, if◌then◌else◌}
use Rattle.std.specs.Int.Signed.{lt_z}
use Rattle.std.proofs.lemmas.List.{drop_all}
use Rattle.std.specs.Str.{bytes_eq}
use Rattle.std.specs.Str.Parse.{digits_value}
use Rattle.std.proofs.lemmas.Slice.Eq.{bytes_eq-Decides}
use Rattle.std.proofs.lemmas.Bool.Decides.{nat_tests}
use Rattle.std.proofs.lemmas.Fmt.{decimal_is_IsNumeral}
use Rattle.rx_text.specs.Numbers.{number_text, natural_text, StandsAt}
use Rattle.rx_words.specs.Words.{number_of}
use Rattle.rx_kills.proofs.Marks.{last-stands}

-- three tests that hold, and one that fails
all-three : (a b d : Bool) (n : ℕ) → a ≡ true → b ≡ true → d ≡ true → (if a && b && d then Some n else None) ≡ Some n
all-three true true true n x y z = refl
all-three true true false n x y z = cc
all-three true false d n x y z = cc
all-three false b d n x y z = cc

pub three-of : (a b d : Bool) (n m : ℕ) → (if a && b && d then Some n else None) ≡ Some m → (a ≡ true) × (b ≡ true) × (d ≡ true) × (n ≡ m)
three-of true true true n m e = (refl, refl, refl, cc)
three-of true true false n m e = cc
three-of true false d n m e = cc
three-of false b d n m e = cc

some-or-none : (a b d : Bool) (n : ℕ) → ((a ≡ true) → (b ≡ true) → (d ≡ true) → ⊥) → None ≡ (if a && b && d then Some n else None)
some-or-none true true true n un = absurd (un refl refl refl)
some-or-none true true false n un = refl
some-or-none true false d n un = refl
some-or-none false b d n un = refl

-- a word that spells a number in the range gives it
pub spelled-number : (least most n : ℕ) (word : List ℕ) → word ≡ natural_text n → n < 2 ^ 64 → least ≤ n → n ≤ most → number_of least most word ≡ Some n
spelled-number least most n word is small low high =
    let value : digits_value 10 word ≡ n = ap (digits_value 10) is ∙ (decimal_is_IsNumeral n small).1 in
    let same : word ≡ natural_text (digits_value 10 word) = is ∙ ap natural_text (sym value) in
    let a : bytes_eq word (natural_text (digits_value 10 word)) ≡ true = (bytes_eq-Decides word (natural_text (digits_value 10 word))).1 same in
    let b : nat_le least (digits_value 10 word) ≡ true = grind (arith, nat_tests) in
    let d : nat_le (digits_value 10 word) most ≡ true = grind (arith, nat_tests) in
    all-three _ _ _ (digits_value 10 word) a b d ∙ ap (λ k. Some k) value

-- and a word that gives a number spells it
pub number-spelled : (least most n : ℕ) (word : List ℕ) → number_of least most word ≡ Some n → (word ≡ natural_text n) × (least ≤ n) × (n ≤ most)
number-spelled least most n word e =
    let t = three-of (bytes_eq word (natural_text (digits_value 10 word))) (nat_le least (digits_value 10 word)) (nat_le (digits_value 10 word) most) (digits_value 10 word) n e in
    let value : digits_value 10 word ≡ n = t.3 in
    let is : word ≡ natural_text (digits_value 10 word) = (bytes_eq-Decides word (natural_text (digits_value 10 word))).0 t.0 in
    let low : nat_le least (digits_value 10 word) ≡ true = t.1 in
    let high : nat_le (digits_value 10 word) most ≡ true = t.2 in
    (is ∙ ap natural_text value, grind (arith, nat_tests), grind (arith, nat_tests))

-- where no word spells a number in the range, none is given
pub no-number : (least most : ℕ) (word : List ℕ) → ((n : ℕ) → word ≡ natural_text n → least ≤ n → n ≤ most → ⊥) → None ≡ number_of least most word
no-number least most word none =
    some-or-none _ _ _ (digits_value 10 word) (λ a b d.
    let low : nat_le least (digits_value 10 word) ≡ true = b in
    let high : nat_le (digits_value 10 word) most ≡ true = d in
    none (digits_value 10 word) ((bytes_eq-Decides word (natural_text (digits_value 10 word))).0 a) (grind (arith, nat_tests)) (grind (arith, nat_tests)))

-- a natural number stands at a word's front as it stands in its text
pub natural-stands : (word : List ℕ) (n : ℕ) → word ≡ natural_text n → n < 2 ^ 63 → StandsAt word 0 (pos n) (length word)
natural-stands word n is small = last-stands word 0 (pos n) (record { sfits = omega arith }) is

-- what stands there to the word's end is its text
pub whole-text : (word : List ℕ) (z : ℤ) (end : ℕ) → StandsAt word 0 z end → length word ≤ end → word ≡ number_text z
whole-text word z end s long = s.spelled ∙ ap (λ rest. number_text z ++ rest) (drop_all end word long) ∙ append-nil (number_text z)

-- a number that is not below a natural one and not above another is a natural one between them
pub between : (least most : ℕ) (z : ℤ) → lt_z z (pos least) ≡ false → lt_z (pos most) z ≡ false → (n : ℕ) × (z ≡ pos n) × (least ≤ n) × (n ≤ most)
between least most (pos n) low high =
    let l : nat_lt n least ≡ false = low in
    let h : nat_lt most n ≡ false = high in
    (n, refl, grind (arith, nat_tests), grind (arith, nat_tests))
between least most (negsuc n) low high = cc

-- one that is in the range is not below or above it
pub not-outside : (least most n : ℕ) (z : ℤ) → z ≡ pos n → least ≤ n → n ≤ most → (lt_z z (pos least) ≡ true → ⊥) × (lt_z (pos most) z ≡ true → ⊥)
not-outside least most n z same low high = (
  λ e. (let t : nat_lt n least ≡ true = sym (ap (λ y. lt_z y (pos least)) same) ∙ e in grind (arith, nat_tests)),
  λ e. (let t : nat_lt most n ≡ true = sym (ap (λ y. lt_z (pos most) y) same) ∙ e in grind (arith, nat_tests)),
)
