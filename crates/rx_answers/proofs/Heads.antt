-- First lines, and what follows them.
use Rattle.std.proofs.Common.{◌≡◌, ℕ, ◌≤◌, Bool, true, false, Some, List, ◌∷◌, ◌++◌, length, take, drop, refl, ap, sym, ◌∙◌, arith, append_assoc, length-append, subst, codes, ℤ, pos, Option, FitsSigned}
use Rattle.std.specs.Int.{w64}
use mir.Val.{to_z, of_z}
use lib.Signed.{le_z}
use Rattle.std.specs.Str.{bytes_eq}
use Rattle.std.proofs.lemmas.Bool.{le-leb}
use Rattle.std.proofs.lemmas.Int.{to_z-of_z}
use Rattle.std.proofs.lemmas.List.{take-append-drop, append_cancel_left}
use Rattle.std.proofs.Math.Seq.{take-append_seam, drop-append_seam}
use Rattle.std.proofs.lemmas.Slice.Eq.{bytes_eq-Decides}
use Rattle.rx_text.specs.Numbers.{natural_text, NoDigitFirst, StandsAt}
use Rattle.rx_text.specs.Spelling.{NaturalsHaveOneText}
use Rattle.rx_answers.specs.Pair.{IsPair, IsHead, PartsAreOne}

-- these bytes stand in front
pub front-is : (word front : List ℕ) → bytes_eq (take (length front) word) front ≡ true → word ≡ front ++ drop (length front) word
front-is word front e =
    sym (take-append-drop (length front) word) ∙ ap (λ x. x ++ drop (length front) word) ((bytes_eq-Decides (take (length front) word) front).0 e)

-- they don't
pub front-not : (word front rest : List ℕ) → bytes_eq (take (length front) word) front ≡ false → word ≡ front ++ rest → ⊥
front-not word front rest e is =
    let yes : bytes_eq (take (length front) word) front ≡ true = (bytes_eq-Decides (take (length front) word) front).1 (ap (take (length front)) is ∙ take-append_seam front rest) in
    let no : false ≡ true = sym e ∙ yes in
    cc

-- what follows the words of a first line
pub after-words : (bytes tail rest : List ℕ) (size : ℕ) → bytes ≡ codes "rx10 pair " ++ tail → IsHead bytes size rest → tail ≡ natural_text size ++ 10 ∷ rest
after-words bytes tail rest size is head =
    append_cancel_left (codes "rx10 pair ") tail (natural_text size ++ 10 ∷ rest)
    (sym is ∙ head.whole ∙ append_assoc (codes "rx10 pair ") (natural_text size ++ codes "\n") rest ∙ ap (λ x. codes "rx10 pair " ++ x) (append_assoc (natural_text size) (codes "\n") rest))

-- its number stands there
pub head-stands : (tail rest : List ℕ) (size : ℕ) → size ≤ 65536 → tail ≡ natural_text size ++ 10 ∷ rest → StandsAt tail 0 (pos size) (length (natural_text size))
head-stands tail rest size small is =
    let over : drop (length (natural_text size)) tail ≡ 10 ∷ rest = ap (drop (length (natural_text size))) is ∙ drop-append_seam (natural_text size) (10 ∷ rest) in
    let P : List ℕ → Type 0 = NoDigitFirst in
    record {
      fits = (let fits : FitsSigned w64 (pos size) = record { sfits = omega arith } in fits);
      spelled = is ∙ ap (λ x. natural_text size ++ x) (sym over);
      within = omega (arith, ap length is ∙ length-append (natural_text size) (10 ∷ rest));
      last = subst P (sym over) refl;
    }

-- what is scanned of a first line is its number and its end
pub scanned-head : (bytes tail rest : List ℕ) (size : ℕ) (r : Option (ℤ × ℕ)) → bytes ≡ codes "rx10 pair " ++ tail → IsHead bytes size rest
    → ((n : ℤ) (end : ℕ) → StandsAt tail 0 n end → r ≡ Some (n, end)) → (r ≡ Some (pos size, length (natural_text size))) × (drop (length (natural_text size)) tail ≡ 10 ∷ rest)
scanned-head bytes tail rest size r is head exact =
    let t : tail ≡ natural_text size ++ 10 ∷ rest = after-words bytes tail rest size is head in (
      exact (pos size) (length (natural_text size)) (head-stands tail rest size head.short t),
      ap (drop (length (natural_text size))) t ∙ drop-append_seam (natural_text size) (10 ∷ rest),
    )

-- the first line of a pair
pub head-of-pair : (bytes script trace : List ℕ) → IsPair bytes script trace → IsHead bytes (length script) (script ++ trace)
head-of-pair bytes script trace pair = record { short = pair.short; whole = pair.whole }

-- two first lines of the same bytes are one
pub one-head : NaturalsHaveOneText → (bytes x y : List ℕ) (m n : ℕ) → IsHead bytes m x → IsHead bytes n y → (m ≡ n) × (x ≡ y)
one-head naturals bytes x y m n a b =
    let tail : List ℕ = natural_text m ++ 10 ∷ x in
    let whole : bytes ≡ codes "rx10 pair " ++ tail = a.whole ∙ append_assoc (codes "rx10 pair ") (natural_text m ++ codes "\n") x ∙ ap (λ r. codes "rx10 pair " ++ r) (append_assoc (natural_text m) (codes "\n") x) in
    let same : tail ≡ natural_text n ++ 10 ∷ y = after-words bytes tail y n whole b in
    let one = naturals m n (10 ∷ x) (10 ∷ y) (let h = a.short in omega arith) (let h = b.short in omega arith) refl refl same in
    (one.0, tails one.1)
  where
    tails : 10 ∷ x ≡ 10 ∷ y → x ≡ y
    tails e = cc

-- two pairs of the same bytes are one
pub one-pair : NaturalsHaveOneText → PartsAreOne
one-pair naturals bytes script trace other more a b =
    let one = one-head naturals bytes (script ++ trace) (other ++ more) (length script) (length other) (head-of-pair bytes script trace a) (head-of-pair bytes other more b) in
    let first : script ≡ other = sym (take-append_seam script trace) ∙ ap (take (length script)) one.1 ∙ ap (λ k. take k (other ++ more)) one.0 ∙ take-append_seam other more in
    (first, append_cancel_left script trace more (one.1 ∙ ap (λ s. s ++ more) (sym first)))

-- the number of a first line is in its range
pub in-range : (z : ℤ) (size : ℕ) → z ≡ pos size → size ≤ 65536 → (le_z (pos 0) (to_z w64 (of_z w64 z)) ≡ true) × (le_z (to_z w64 (of_z w64 z)) (pos 65536) ≡ true)
in-range z size is small =
    let fits : FitsSigned w64 (pos size) = record { sfits = omega arith } in
    let back : to_z w64 (of_z w64 z) ≡ pos size = ap (λ y. to_z w64 (of_z w64 y)) is ∙ to_z-of_z w64 (pos size) fits in
    (ap (λ y. le_z (pos 0) y) back ∙ le-leb 0 size (omega arith), ap (λ y. le_z y (pos 65536)) back ∙ le-leb size 65536 small)

-- a test has one answer
pub one-answer : (b : Bool) → b ≡ true → b ≡ false → ⊥
one-answer b is other = cc
