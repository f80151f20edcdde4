-- Two numbers with the sign `@` between them.
use Rattle.std.proofs.Common.{◌≡◌, ℕ, ◌+◌, ◌<◌, List, [], ◌∷◌, ◌++◌, length, drop, slice_index, Option, Some, None, refl, ap, sym, ◌∙◌, arith, append_assoc, append-nil, length-append, subst, ℤ, FitsSigned}
use Rattle.std.specs.Int.{w64}
use mir.Val.{to_z, of_z}
use Rattle.std.proofs.lemmas.Int.{to_z-of_z}
use Rattle.std.proofs.lemmas.List.{drop_all}
use Rattle.std.proofs.Math.Seq.{drop-append_seam}
use Rattle.rx_text.specs.Numbers.{number_text, NoDigitFirst, StandsAt}
use Rattle.rx_text.proofs.OneText.{written}

-- the first number stands at the front
pub first-stands : (word : List ℕ) (m n : ℤ) → FitsSigned w64 m → word ≡ number_text m ++ 64 ∷ number_text n → StandsAt word 0 m (length (number_text m))
first-stands word m n fits is =
    let P : List ℕ → Type 0 = λ w. StandsAt w 0 m (length (number_text m)) in
    let e : 0 + length (number_text m) ≡ length (number_text m) = omega arith in
    subst P (sym is) (subst (λ (k : ℕ). StandsAt (number_text m ++ 64 ∷ number_text n) 0 m k) e (written [] (64 ∷ number_text n) m fits refl))

seam : (xs ys : List ℕ) → slice_index (xs ++ 64 ∷ ys) (length xs) ≡ 64
seam [] ys = refl
seam (x ∷ xs) ys = seam xs ys

-- the sign stands after it
pub sign-stands : (word : List ℕ) (m n : ℤ) → word ≡ number_text m ++ 64 ∷ number_text n → slice_index word (length (number_text m)) ≡ 64
sign-stands word m n is = ap (λ w. slice_index w (length (number_text m))) is ∙ seam (number_text m) (number_text n)

-- and is inside the word
pub sign-inside : (word : List ℕ) (m n : ℤ) → word ≡ number_text m ++ 64 ∷ number_text n → length (number_text m) < length word
sign-inside word m n is = omega (arith, ap length is, length-append (number_text m) (64 ∷ number_text n))

-- the second number follows the sign
pub second-left : (word : List ℕ) (m n : ℤ) → word ≡ number_text m ++ 64 ∷ number_text n → drop (length (number_text m) + 1) word ≡ number_text n
second-left word m n is =
    let front = number_text m ++ 64 ∷ [] in
    let parts : word ≡ front ++ number_text n = is ∙ sym (append_assoc (number_text m) (64 ∷ []) (number_text n)) in
    let long : length (number_text m) + 1 ≡ length front = omega (arith, length-append (number_text m) (64 ∷ [])) in
    ap (λ k. drop k word) long ∙ ap (drop (length front)) parts ∙ drop-append_seam front (number_text n)

-- a number that ends a word stands there
pub last-stands : (word : List ℕ) (from : ℕ) (n : ℤ) → FitsSigned w64 n → drop from word ≡ number_text n → StandsAt word from n (length word)
last-stands word from n fits is =
    let none : drop (length word) word ≡ [] = drop_all (length word) word (omega arith) in
    record {
      fits = fits;
      spelled = is ∙ sym (append-nil (number_text n)) ∙ ap (λ r. number_text n ++ r) (sym none);
      within = omega arith;
      last = (let P : List ℕ → Type 0 = NoDigitFirst in subst P (sym none) refl);
    }

-- the second number stands after the sign, and ends the word
pub second-stands : (word : List ℕ) (m n : ℤ) → FitsSigned w64 n → word ≡ number_text m ++ 64 ∷ number_text n → StandsAt word (length (number_text m) + 1) n (length word)
second-stands word m n fits is = last-stands word (length (number_text m) + 1) n fits (second-left word m n is)

-- an answer is one
pub one-answer : {A : Type 0} (r : Option A) (x y : A) → r ≡ Some x → r ≡ Some y → x ≡ y
one-answer r x y first second = cc

-- and where it is a number, it is not None
pub not-none : {A : Type 0} (r : Option A) (y : A) → r ≡ None → r ≡ Some y → ⊥
not-none r y first second = cc

-- a number in its range is kept as a word of 64 bits
pub kept : (k n : ℤ) → FitsSigned w64 n → k ≡ n → to_z w64 (of_z w64 k) ≡ n
kept k n fits same = ap (λ z. to_z w64 (of_z w64 z)) same ∙ to_z-of_z w64 n fits
