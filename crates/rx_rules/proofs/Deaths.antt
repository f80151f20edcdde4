-- The number of a place's death, with one entry more.
use Rattle.std.proofs.Common.{◌≡◌, ℕ, suc, ◌+◌, List, [], ◌∷◌, ◌++◌, length, Option, Some, None, ◌==◌, Bool, true, false, refl, ap, ◌∙◌, sym, arith}
use Rattle.rx_rules.proofs.Common.{PlaceId, death_number}
use Rattle.rx_rules.specs.declared.entries.Entry.{Entry}
use Rattle.rx_rules.specs.declared.entries.Entry.TheVariants.{Step, Root, Death, Join}

abbrev pub first_of : Option ℕ → Option ℕ → Option ℕ
first_of (Some k) o = Some k
first_of None o = o

shift : (n : ℕ) (p : PlaceId) (x : Entry) (es : List Entry) (e : Entry) → first_of (death_number (suc n) p es) (death_number (suc n + length es) p (e ∷ [])) ≡ first_of (death_number (suc n) p es) (death_number (n + length (x ∷ es)) p (e ∷ []))
shift n p x es e =
    let z : suc n + length es ≡ n + length (x ∷ es) = omega arith in
    ap (λ m. first_of (death_number (suc n) p es) (death_number m p (e ∷ []))) z

death_step : (n : ℕ) (p d : PlaceId) (es : List Entry) (e : Entry) (b : Bool) → (d.0 == p.0) ≡ b → death_number (suc n) p (es ++ e ∷ []) ≡ first_of (death_number (suc n) p es) (death_number (suc n + length es) p (e ∷ [])) → death_number n p (Death d ∷ es ++ e ∷ []) ≡ first_of (death_number n p (Death d ∷ es)) (death_number (n + length (Death d ∷ es)) p (e ∷ []))
death_step n p d es e true h ih = rw h
death_step n p d es e false h ih = rw h (ih ∙ shift n p (Death d) es e)

-- a place that lives has no death in a longer history unless the entry is one
pub death-push : (n : ℕ) (p : PlaceId) (es : List Entry) (e : Entry) → death_number n p (es ++ e ∷ []) ≡ first_of (death_number n p es) (death_number (n + length es) p (e ∷ []))
death-push n p [] e = let z : n + 0 ≡ n = omega arith in ap (λ k. death_number k p (e ∷ [])) (sym z)
death-push n p (Step t act batch ∷ es) e = death-push (suc n) p es e ∙ shift n p (Step t act batch) es e
death-push n p (Root lost masked thrown ∷ es) e = death-push (suc n) p es e ∙ shift n p (Root lost masked thrown) es e
death-push n p (Death d ∷ es) e = death_step n p d es e (d.0 == p.0) refl (death-push (suc n) p es e)
death-push n p (Join j ∷ es) e = death-push (suc n) p es e ∙ shift n p (Join j) es e
