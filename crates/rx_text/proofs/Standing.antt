-- Where numbers stand.
use Rattle.std.proofs.Common.{◌≡◌, ℕ, ◌+◌, ◌-◌, ◌<◌, ◌≤◌, List, ◌++◌, length, drop, ap, sym, ◌∙◌, arith, length-append, length-drop, subst, ℤ, pos, negsuc}
use Rattle.std.proofs.lemmas.List.{drop-drop}
use Rattle.rx_text.specs.Numbers.{number_text, NoDigitFirst, StandsAt}
use Rattle.rx_text.proofs.Digits.{some-decimal}

-- each number has some text
pub some-text : (n : ℤ) → 0 < length (number_text n)
some-text (pos m) = some-decimal m
some-text (negsuc m) = omega arith

-- a number ends after it begins
pub ends-later : (bytes : List ℕ) (start : ℕ) (n : ℤ) (end : ℕ) → start ≤ length bytes → StandsAt bytes start n end → start < end
ends-later bytes start n end inside stands =
    let within : end ≤ length bytes = stands.within in
    let parts : length bytes - start ≡ length (number_text n) + (length bytes - end) = sym (length-drop start bytes) ∙ ap length stands.spelled ∙ length-append (number_text n) (drop end bytes) ∙ ap (λ k. length (number_text n) + k) (length-drop end bytes) in
    omega (arith, some-text n)

-- a number that stands at a place stands in front of what is left there
pub stands-front : (bytes text : List ℕ) (start : ℕ) (n : ℤ) (end : ℕ) → start ≤ length bytes → text ≡ drop start bytes → StandsAt bytes start n end → StandsAt text 0 n (end - start)
stands-front bytes text start n end inside rest stands =
    let later = ends-later bytes start n end inside stands in
    let within : end ≤ length bytes = stands.within in
    let whole : start + (end - start) ≡ end = omega arith in
    let after : drop (end - start) text ≡ drop end bytes = ap (drop (end - start)) rest ∙ drop-drop (end - start) start bytes ∙ ap (λ k. drop k bytes) whole in
    record {
      fits = stands.fits;
      spelled = rest ∙ stands.spelled ∙ ap (λ t. number_text n ++ t) (sym after);
      within = omega (arith, ap length rest, length-drop start bytes);
      last = (let P : List ℕ → Type 0 = NoDigitFirst in subst P (sym after) stands.last);
    }
