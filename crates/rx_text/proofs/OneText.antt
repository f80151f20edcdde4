-- Each number and path has a text of its own.
use Rattle.std.proofs.Common.{◌≡◌, ℕ, ◌+◌, ◌<◌, ◌^◌, true, false, List, [], ◌∷◌, ◌++◌, length, drop, slice_index, suc, refl, ap, sym, ◌∙◌, arith, append_assoc, length-append, subst, pos, negsuc}
use Rattle.std.specs.Char.{is_ascii_digit}
use Rattle.std.specs.Fmt.{decimal}
use Rattle.std.specs.List.{flat_map, AllByRecursion}
use Rattle.std.specs.Str.{all_ascii_digits}
use Rattle.std.proofs.lemmas.Fmt.{decimal_injective}
use Rattle.std.proofs.lemmas.List.Elements.{recursion_from_All}
use Rattle.std.proofs.Math.Seq.{drop-append_seam}
use Rattle.rx_base.proofs.Elements.{rest-is}
use Rattle.rx_text.specs.Numbers.{number_text, NoDigitFirst}
use Rattle.rx_text.specs.Paths.{path_text, dotted, NoPathFirst}
use Rattle.rx_text.specs.Spelling.{WrittenNumbersStand, NumbersHaveOneText, NaturalsHaveOneText, PathsHaveOneText}
use Rattle.rx_text.proofs.Digits.{all-digits, digit-first, one-run, some-decimal}

-- numbers with no sign
pub naturals : NaturalsHaveOneText
naturals m n x y small_m small_n no_x no_y same =
    let parts = one-run (decimal m) (decimal n) x y (all-digits m small_m) (all-digits n small_n) no_x no_y same in
    (decimal_injective m n small_m small_n parts.0, parts.1)

-- a text of digits has no sign in front
sign-apart : (m : ℕ) (x y : List ℕ) → m < 2 ^ 64 → decimal m ++ x ≡ 45 ∷ y → ⊥
sign-apart m x y small same =
    let digit : is_ascii_digit 45 ≡ true = sym (ap (λ t. is_ascii_digit (slice_index t 0)) same) ∙ digit-first (decimal m) x (some-decimal m) (all-digits m small) in
    let none : false ≡ true = digit in cc

-- numbers
pub numbers : NumbersHaveOneText
numbers (pos m) (pos n) x y fits_m fits_n no_x no_y same =
    let small_m : m < 2 ^ 63 = fits_m.sfits in
    let small_n : n < 2 ^ 63 = fits_n.sfits in
    let parts = naturals m n x y (omega arith) (omega arith) no_x no_y same in
    (ap pos parts.0, parts.1)
numbers (pos m) (negsuc n) x y fits_m fits_n no_x no_y same =
    let small_m : m < 2 ^ 63 = fits_m.sfits in absurd (sign-apart m x _ (omega arith) same)
numbers (negsuc m) (pos n) x y fits_m fits_n no_x no_y same =
    let small_n : n < 2 ^ 63 = fits_n.sfits in absurd (sign-apart n y _ (omega arith) (sym same))
numbers (negsuc m) (negsuc n) x y fits_m fits_n no_x no_y same =
    let small_m : m < 2 ^ 63 = fits_m.sfits in
    let small_n : n < 2 ^ 63 = fits_n.sfits in
    let parts = naturals (suc m) (suc n) x y (omega arith) (omega arith) no_x no_y (rest-is 45 _ _ same) in
    let back : m ≡ n = let e = parts.0 in omega arith in
    (ap negsuc back, parts.1)

-- what follows a number in a path
tail-free : (ns x : List ℕ) → NoDigitFirst x → NoDigitFirst (flat_map dotted ns ++ x)
tail-free [] x no_x = no_x
tail-free (n ∷ ns) x no_x = refl

two : (n m : ℕ) (ns ms : List ℕ) → n ≡ m → ns ≡ ms → n ∷ ns ≡ m ∷ ms
two n m ns ms first rest = cc

tails : (ns ms x y : List ℕ) → AllByRecursion (λ n. n < 2 ^ 32) ns → AllByRecursion (λ n. n < 2 ^ 32) ms → NoPathFirst x → NoPathFirst y → flat_map dotted ns ++ x ≡ flat_map dotted ms ++ y → (ns ≡ ms) × (x ≡ y)
tails [] [] x y small_n small_m no_x no_y same = (refl, same)
tails [] (m ∷ ms) x y small_n small_m no_x no_y same = absurd (no_x.1 (ap (λ t. slice_index t 0) same))
tails (n ∷ ns) [] x y small_n small_m no_x no_y same = absurd (no_y.1 (ap (λ t. slice_index t 0) (sym same)))
tails (n ∷ ns) (m ∷ ms) x y small_n small_m no_x no_y same =
    let low_n : n < 2 ^ 32 = small_n.0 in
    let low_m : m < 2 ^ 32 = small_m.0 in
    let after = rest-is 46 _ _ same in
    let parts = naturals n m (flat_map dotted ns ++ x) (flat_map dotted ms ++ y) (omega arith) (omega arith) (tail-free ns x no_x.0) (tail-free ms y no_y.0)
    (sym (append_assoc (decimal n) (flat_map dotted ns) x) ∙ after ∙ append_assoc (decimal m) (flat_map dotted ms) y) in
    let more = tails ns ms x y small_n.1 small_m.1 no_x no_y parts.1 in
    (two n m ns ms parts.0 more.0, more.1)

no-digit : (ds rest y : List ℕ) → 0 < length ds → all_ascii_digits ds ≡ true → ds ++ rest ≡ y → NoDigitFirst y → ⊥
no-digit ds rest y some digits same no_y =
    let clash : true ≡ false = sym (digit-first ds rest some digits) ∙ ap (λ t. is_ascii_digit (slice_index t 0)) same ∙ no_y in cc

whole : (p q x y : List ℕ) → AllByRecursion (λ n. n < 2 ^ 32) p → AllByRecursion (λ n. n < 2 ^ 32) q → NoPathFirst x → NoPathFirst y → path_text p ++ x ≡ path_text q ++ y → (p ≡ q) × (x ≡ y)
whole [] [] x y small_p small_q no_x no_y same = (refl, same)
whole [] (m ∷ ms) x y small_p small_q no_x no_y same =
    let low : m < 2 ^ 32 = small_q.0 in
    absurd (no-digit (decimal m) (flat_map dotted ms ++ y) x (some-decimal m) (all-digits m (omega arith)) (sym (append_assoc (decimal m) (flat_map dotted ms) y) ∙ sym same) no_x.0)
whole (n ∷ ns) [] x y small_p small_q no_x no_y same =
    let low : n < 2 ^ 32 = small_p.0 in
    absurd (no-digit (decimal n) (flat_map dotted ns ++ x) y (some-decimal n) (all-digits n (omega arith)) (sym (append_assoc (decimal n) (flat_map dotted ns) x) ∙ same) no_y.0)
whole (n ∷ ns) (m ∷ ms) x y small_p small_q no_x no_y same =
    tails (n ∷ ns) (m ∷ ms) x y small_p small_q no_x no_y (ap (λ t. 46 ∷ t) same)

-- paths
pub paths : PathsHaveOneText
paths p q x y small_p small_q no_x no_y same =
    whole p q x y (recursion_from_All (λ n. n < 2 ^ 32) p small_p) (recursion_from_All (λ n. n < 2 ^ 32) q small_q) no_x no_y same

-- a number that was written stands there
pub written : WrittenNumbersStand
written before rest n fits last =
    let text = number_text n in
    let bytes = before ++ text ++ rest in
    let end = length before + length text in
    let left : drop (length before) bytes ≡ text ++ rest = ap (drop (length before)) (append_assoc before text rest) ∙ drop-append_seam before (text ++ rest) in
    let after : drop end bytes ≡ rest = ap (λ k. drop k bytes) (sym (length-append before text)) ∙ drop-append_seam (before ++ text) rest in
    record {
      fits = fits;
      spelled = left ∙ ap (λ r. text ++ r) (sym after);
      within = omega (arith, length-append (before ++ text) rest, length-append before text);
      last = (let P : List ℕ → Type 0 = NoDigitFirst in subst P (sym after) last);
    }
