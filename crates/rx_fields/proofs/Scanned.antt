-- Words that are scanned as numbers.
use Rattle.std.proofs.Common.{◌≡◌, ℕ, ◌<◌, ◌≤◌, ◌^◌, Bool, true, false, cond, nat_lt, List, [], ◌++◌, length, drop, refl, ap, sym, ◌∙◌, subst, arith, append-nil, Option, Some, None, ℤ, pos, negsuc, FitsSigned}
use Rattle.std.specs.Int.{w64}
use mir.Val.{to_z, of_z}
use Rattle.std.proofs.lemmas.Int.{to_z-of_z}
use Rattle.std.proofs.lemmas.List.{drop_all}
use Rattle.std.proofs.lemmas.Bool.{ltb-true, ltb-false, lt-ltb}
use Rattle.std.proofs.lemmas.Option.{same_Some, none-some}
use Rattle.rx_text.specs.Numbers.{number_text, natural_text, NoDigitFirst, StandsAt}
use Rattle.rx_fields.specs.Inside.FieldWords.{next, number_of, natural_of, number_below, short_of}
use Rattle.rx_fields.proofs.Figures.{below-takes, below-again, number-takes, number-again}

-- a whole word that is a number
pub scanned : (word : List ℕ) (n : ℤ) (end : ℕ) → StandsAt word 0 n end → end ≡ length word → Some (to_z w64 (of_z w64 n)) ≡ number_of word
scanned word n end s all =
    let none : drop end word ≡ [] = drop_all end word (omega arith) in
    let text : word ≡ number_text n = s.spelled ∙ ap (λ r. number_text n ++ r) none ∙ append-nil (number_text n) in
    ap Some (to_z-of_z w64 n s.fits) ∙ sym (ap number_of text ∙ number-again n s.fits)

stands-whole : (word : List ℕ) (n : ℤ) → FitsSigned w64 n → word ≡ number_text n → StandsAt word 0 n (length word)
stands-whole word n fits is =
    let none : drop (length word) word ≡ [] = drop_all (length word) word (omega arith) in
    record {
      fits = fits;
      spelled = is ∙ sym (append-nil (number_text n)) ∙ ap (λ r. number_text n ++ r) (sym none);
      within = omega arith;
      last = (let P : List ℕ → Type 0 = NoDigitFirst in subst P (sym none) refl);
    }

no-scan : (word : List ℕ) (r : Option (ℤ × ℕ)) → ((n : ℤ) (end : ℕ) → StandsAt word 0 n end → r ≡ Some (n, end)) → ((n : ℤ) → r ≡ Some (n, length word) → ⊥) → None ≡ number_of word
no-scan word r exact never = by (number_of word) refl
  where
    by : (o : Option ℤ) → number_of word ≡ o → None ≡ number_of word
    by None e = sym e
    by (Some n) e = let is = number-takes word n e in absurd (never n (exact n (length word) (stands-whole word n is.1 is.0)))

-- no number stands in front
pub scanned-none : (word : List ℕ) (r : Option (ℤ × ℕ)) → ((n : ℤ) (end : ℕ) → StandsAt word 0 n end → r ≡ Some (n, end)) → r ≡ None → None ≡ number_of word
scanned-none word r exact none = no-scan word r exact (λ n e. none-some (n, length word) (sym none ∙ e))

-- the number that stands in front is not all
pub scanned-less : (word : List ℕ) (r : Option (ℤ × ℕ)) (n : ℤ) (end : ℕ) → ((n : ℤ) (end : ℕ) → StandsAt word 0 n end → r ≡ Some (n, end)) → r ≡ Some (n, end) → (end ≡ length word → ⊥) → None ≡ number_of word
scanned-less word r n end exact is less = no-scan word r exact (λ m e. less (ap (λ x. x.1) (same_Some (n, end) (m, length word) (sym is ∙ e))))

short-is : (w : List ℕ) (o : Option ℤ) → number_of w ≡ o → next o short_of ≡ natural_of w
short-is w o e = by (natural_of w) refl o e
  where
    none-of : (z : ℤ) → (w ≡ number_text z) × FitsSigned w64 z → natural_of w ≡ None → short_of z ≡ None
    none-of (negsuc n) is none = refl
    none-of (pos n) is none = low (nat_lt n (2 ^ 32)) refl
      where
        low : (b : Bool) → nat_lt n (2 ^ 32) ≡ b → cond b (Some n) None ≡ None
        low false h = refl
        low true h = absurd (none-some n (sym none ∙ ap natural_of is.0 ∙ below-again (2 ^ 32) n (ltb-true n (2 ^ 32) h) (omega arith)))

    by : (m : Option ℕ) → natural_of w ≡ m → (o : Option ℤ) → number_of w ≡ o → next o short_of ≡ natural_of w
    by None f None e = sym f
    by None f (Some z) e = none-of z (number-takes w z e) f ∙ sym f
    by (Some n) f o e =
        let is = below-takes (2 ^ 32) w n f in
        let low : n < 2 ^ 32 = is.1 in
        let fits : FitsSigned w64 (pos n) = record { sfits = omega arith } in
        let known : o ≡ Some (pos n) = sym e ∙ ap number_of is.0 ∙ number-again (pos n) fits in
        ap (λ x. next x short_of) known ∙ ap (λ b. cond b (Some n) None) (lt-ltb n (2 ^ 32) low) ∙ sym f

-- a number of 32 bits is one of 64 bits that is short
pub natural_by_number : (w : List ℕ) → natural_of w ≡ next (number_of w) short_of
natural_by_number w = sym (short-is w (number_of w) refl)

-- a number of 32 bits is one of 64 bits
natural_number : (w : List ℕ) (n : ℕ) → natural_of w ≡ Some n → number_of w ≡ Some (pos n)
natural_number w n e =
    let is = below-takes (2 ^ 32) w n e in
    let low : n < 2 ^ 32 = is.1 in
    let fits : FitsSigned w64 (pos n) = record { sfits = omega arith } in
    ap number_of is.0 ∙ number-again (pos n) fits

-- the number of 64 bits that a number of 32 bits is stored as
pub stored_number : (w : List ℕ) (n : ℕ) (z : ℤ) → natural_of w ≡ Some n → z ≡ pos n → Some (to_z w64 (of_z w64 z)) ≡ number_of w
stored_number w n z e is =
    let low : n < 2 ^ 32 = (below-takes (2 ^ 32) w n e).1 in
    let fits : FitsSigned w64 (pos n) = record { sfits = omega arith } in
    ap (λ y. Some (to_z w64 (of_z w64 y))) is ∙ ap Some (to_z-of_z w64 (pos n) fits) ∙ sym (natural_number w n e)

abbrev limited : ℕ → ℕ → Option ℕ
limited limit n = cond (nat_lt n limit) (Some n) None

-- a number below a limit is one of 32 bits
pub below_by_natural : (limit : ℕ) (w : List ℕ) → limit < 2 ^ 32 → number_below limit w ≡ next (natural_of w) (λ n. cond (nat_lt n limit) (Some n) None)
below_by_natural limit w small = by (number_below limit w) refl (natural_of w) refl
  where
    by : (o : Option ℕ) → number_below limit w ≡ o → (m : Option ℕ) → natural_of w ≡ m → number_below limit w ≡ next m (limited limit)
    by o e None f = fails o e
      where
        fails : (o : Option ℕ) → number_below limit w ≡ o → number_below limit w ≡ None
        fails None h = h
        fails (Some n) h =
            let is = below-takes limit w n h in
            let low : n < limit = is.1 in
            absurd (none-some n (sym f ∙ ap natural_of is.0 ∙ below-again (2 ^ 32) n (omega arith) (omega arith)))
    by o e (Some n) f =
        let is = below-takes (2 ^ 32) w n f in
        low (nat_lt n limit) refl is.0
      where
        low : (b : Bool) → nat_lt n limit ≡ b → w ≡ natural_text n → number_below limit w ≡ cond b (Some n) None
        low true h text = ap (number_below limit) text ∙ below-again limit n (ltb-true n limit h) (omega arith)
        low false h text = none o e
          where
            none : (o : Option ℕ) → number_below limit w ≡ o → number_below limit w ≡ None
            none None k = k
            none (Some k) is =
                let known = below-takes limit w k is in
                let less : k < limit = known.1 in
                let high : limit ≤ n = ltb-false n limit h in
                let same : k ≡ n = same_Some k n (sym (ap natural_of known.0 ∙ below-again (2 ^ 32) k (omega arith) (omega arith)) ∙ f) in
                absurd (omega arith)
