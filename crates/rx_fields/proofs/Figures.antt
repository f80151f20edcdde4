-- Numbers are read in their one spelling.
use Rattle.std.proofs.Common.{◌≡◌, ℕ, ◌+◌, ◌<◌, ◌≤◌, ◌^◌, Bool, true, false, cond, ◌==◌, ◌&&◌, nat_lt, List, [], ◌∷◌, ◌++◌, length, slice_index, zero, suc, refl, ap, sym, ◌∙◌, subst, arith, append-nil, ◌≢◌, Option, Some, None, option_map, ℤ, pos, negsuc, FitsSigned}
use Rattle.std.specs.Char.{is_ascii_digit}
use Rattle.std.specs.Int.{w64}
use Rattle.std.specs.List.{AllByRecursion}
use Rattle.std.specs.Str.{bytes_eq, all_ascii_digits}
use Rattle.std.specs.Str.Parse.{digits_value}
use Rattle.std.proofs.lemmas.Bool.{eqb-true, eq-eqb, ltb-true, lt-ltb, ne_eqb}
use Rattle.std.proofs.lemmas.Fmt.{decimal_is_IsNumeral}
use Rattle.std.proofs.lemmas.Option.{same_Some, none-some}
use Rattle.rx_base.proofs.Bools.{and-first, and-second}
use Rattle.rx_base.proofs.Elements.{same-bytes}
use Rattle.rx_text.specs.Numbers.{number_text, natural_text}
use Rattle.rx_text.proofs.Digits.{all-digits, digit-first, some-decimal}
use Rattle.rx_fields.specs.Inside.FieldWords.{next, number_below, negative, number_of}
use Rattle.rx_fields.proofs.Cuts.{IsPlain, Plain, all-map, bytes-same}

-- a number that was read
pub below-takes : (limit : ℕ) (w : List ℕ) (n : ℕ) → number_below limit w ≡ Some n → (w ≡ natural_text n) × (n < limit)
below-takes limit w n e = by (bytes_eq w (natural_text (digits_value 10 w))) (nat_lt (digits_value 10 w) limit) refl refl e
  where
    by : (a b : Bool) → bytes_eq w (natural_text (digits_value 10 w)) ≡ a → nat_lt (digits_value 10 w) limit ≡ b → cond (a && b) (Some (digits_value 10 w)) None ≡ Some n → (w ≡ natural_text n) × (n < limit)
    by true true same low is =
        let value : digits_value 10 w ≡ n = same_Some (digits_value 10 w) n is in
        (bytes-same w _ same ∙ ap natural_text value, subst (λ k. k < limit) value (ltb-true _ limit low))
    by true false same low is = absurd (none-some n is)
    by false b same low is = absurd (none-some n is)

-- a number that was written
pub below-again : (limit n : ℕ) → n < limit → limit ≤ 2 ^ 64 → number_below limit (natural_text n) ≡ Some n
below-again limit n low small =
    let value : digits_value 10 (natural_text n) ≡ n = (decimal_is_IsNumeral n (omega arith)).1 in
    ap (λ k. cond (bytes_eq (natural_text n) (natural_text k) && nat_lt k limit) (Some k) None) value
    ∙ ap (λ b. cond (b && nat_lt n limit) (Some n) None) (same-bytes (natural_text n))
    ∙ ap (λ b. cond b (Some n) None) (lt-ltb n limit low)

digit-plain : (b : ℕ) → is_ascii_digit b ≡ true → (b ≢ 32) × (b ≢ 10) × (b ≢ 46) × (b ≢ 64) × (b ≢ 45)
digit-plain b e = (λ h. clash b 32 e h refl, λ h. clash b 10 e h refl, λ h. clash b 46 e h refl, λ h. clash b 64 e h refl, λ h. clash b 45 e h refl)
  where
    clash : (b c : ℕ) → is_ascii_digit b ≡ true → b ≡ c → is_ascii_digit c ≡ false → ⊥
    clash b c e h f = let t : true ≡ false = sym e ∙ ap is_ascii_digit h ∙ f in cc

abbrev pub IsFigure : ℕ → Type 0
IsFigure b = (b ≢ 32) × (b ≢ 10) × (b ≢ 46) × (b ≢ 64) × (b ≢ 45)

pub digits-plain : (ds : List ℕ) → all_ascii_digits ds ≡ true → AllByRecursion IsFigure ds
digits-plain [] e = tt
digits-plain (d ∷ ds) e = (digit-plain d (and-first (is_ascii_digit d) (all_ascii_digits ds) e), digits-plain ds (and-second (is_ascii_digit d) (all_ascii_digits ds) e))

-- the bytes of a number are digits
pub natural-figures : (n : ℕ) → n < 2 ^ 64 → AllByRecursion IsFigure (natural_text n)
natural-figures n small = digits-plain (natural_text n) (all-digits n small)

pub natural-plain : (n : ℕ) → n < 2 ^ 64 → Plain (natural_text n)
natural-plain n small = all-map IsFigure IsPlain (λ b f. (f.0, f.1)) (natural_text n) (natural-figures n small)

-- a word that does not begin with a digit is no number
pub no-number : (limit : ℕ) (w : List ℕ) → limit ≤ 2 ^ 64 → is_ascii_digit (slice_index w 0) ≡ false → number_below limit w ≡ None
no-number limit w small none = by (number_below limit w) refl
  where
    by : (o : Option ℕ) → number_below limit w ≡ o → number_below limit w ≡ None
    by None e = e
    by (Some n) e =
        let is = below-takes limit w n e in
        let low : n < 2 ^ 64 = let h : n < limit = is.1 in omega arith in
        let digit : is_ascii_digit (slice_index (natural_text n ++ []) 0) ≡ true = digit-first (natural_text n) [] (some-decimal n) (all-digits n low) in
        let clash : false ≡ true = sym none ∙ ap (λ v. is_ascii_digit (slice_index v 0)) (is.0 ∙ sym (append-nil (natural_text n))) ∙ digit in
        cc

minus-takes : (bs : List ℕ) (o : Option ℕ) (z : ℤ) → ((n : ℕ) → o ≡ Some n → (bs ≡ natural_text n) × (n < 2 ^ 63 + 1)) → next o negative ≡ Some z → (45 ∷ bs ≡ number_text z) × FitsSigned w64 z
minus-takes bs None z h e = absurd (none-some z e)
minus-takes bs (Some zero) z h e = absurd (none-some z e)
minus-takes bs (Some (suc n)) z h e =
    let is = h (suc n) refl in
    let value : negsuc n ≡ z = same_Some (negsuc n) z e in
    let low : suc n < 2 ^ 63 + 1 = is.1 in
    let fits : FitsSigned w64 (negsuc n) = record { sfits = omega arith } in
    subst (λ y. (45 ∷ bs ≡ number_text y) × FitsSigned w64 y) value (ap (λ t. 45 ∷ t) is.0, fits)

plus-takes : (w : List ℕ) (o : Option ℕ) (z : ℤ) → ((n : ℕ) → o ≡ Some n → (w ≡ natural_text n) × (n < 2 ^ 63)) → option_map pos o ≡ Some z → (w ≡ number_text z) × FitsSigned w64 z
plus-takes w None z h e = absurd (none-some z e)
plus-takes w (Some n) z h e =
    let is = h n refl in
    let value : pos n ≡ z = same_Some (pos n) z e in
    let low : n < 2 ^ 63 = is.1 in
    let fits : FitsSigned w64 (pos n) = record { sfits = omega arith } in
    subst (λ y. (w ≡ number_text y) × FitsSigned w64 y) value (is.0, fits)

pub number-takes : (w : List ℕ) (z : ℤ) → number_of w ≡ Some z → (w ≡ number_text z) × FitsSigned w64 z
number-takes [] z e = absurd (none-some z e)
number-takes (b ∷ bs) z e = by (b == 45) refl e
  where
    by : (t : Bool) → (b == 45) ≡ t → cond t (next (number_below (2 ^ 63 + 1) bs) negative) (option_map pos (number_below (2 ^ 63) (b ∷ bs))) ≡ Some z → (b ∷ bs ≡ number_text z) × FitsSigned w64 z
    by true h is =
        let one = minus-takes bs (number_below (2 ^ 63 + 1) bs) z (below-takes (2 ^ 63 + 1) bs) is in
        (ap (λ c. c ∷ bs) (eqb-true b 45 h) ∙ one.0, one.1)
    by false h is = plus-takes (b ∷ bs) (number_below (2 ^ 63) (b ∷ bs)) z (below-takes (2 ^ 63) (b ∷ bs)) is

plus-again : (w : List ℕ) (n : ℕ) → 0 < length w → AllByRecursion IsFigure w → number_below (2 ^ 63) w ≡ Some n → number_of w ≡ Some (pos n)
plus-again [] n some all e = absurd (omega arith)
plus-again (b ∷ bs) n some all e = ap (λ t. cond t (next (number_below (2 ^ 63 + 1) bs) negative) (option_map pos (number_below (2 ^ 63) (b ∷ bs)))) (ne_eqb b 45 all.0.4) ∙ ap (option_map pos) e

pub number-again : (z : ℤ) → FitsSigned w64 z → number_of (number_text z) ≡ Some z
number-again (pos n) fits =
    let low : n < 2 ^ 63 = fits.sfits in
    plus-again (natural_text n) n (some-decimal n) (natural-figures n (omega arith)) (below-again (2 ^ 63) n low (omega arith))
number-again (negsuc n) fits =
    let low : n < 2 ^ 63 = fits.sfits in
    ap (λ o. next o negative) (below-again (2 ^ 63 + 1) (suc n) (omega arith) (omega arith))

pub number-plain : (z : ℤ) → FitsSigned w64 z → Plain (number_text z)
number-plain (pos n) fits = let low : n < 2 ^ 63 = fits.sfits in natural-plain n (omega arith)
number-plain (negsuc n) fits = let low : n < 2 ^ 63 = fits.sfits in ((differs 45 32 refl, differs 45 10 refl), natural-plain (suc n) (omega arith))
  where
    differs : (b c : ℕ) → (b == c) ≡ false → b ≢ c
    differs b c no-eq h = let t : (b == c) ≡ true = eq-eqb b c h in cc
