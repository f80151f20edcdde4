-- Any moments stand in order.
use Rattle.std.specs.Prelude.{◌≡◌, ℕ, ◌≤◌, Bool, true, false, cond, nat_le, List, [], ◌∷◌}
use Rattle.std.specs.List.Sorted.{IsPermutation}
use Rattle.std.proofs.Common.{refl, zero-le, le_of_lt}
use Rattle.std.proofs.lemmas.Bool.{leb-true, leb-false}
use Rattle.std.proofs.lemmas.List.Sorted.{IsPermutation-refl, IsPermutation-cons, IsPermutation-sym, IsPermutation-trans}
use Rattle.std.proofs.lemmas.List.Sorted.{IsPermutation-middle}
use Rattle.rx_rules.specs.Run.{AreJoins}
use Rattle.rx_words.specs.Moments.{OrderedMoments}

-- a moment among moments that never fall, before the first that is not below it
abbrev put : ℕ → List ℕ → List ℕ
put e [] = e ∷ []
put e (x ∷ xs) = cond (nat_le e x) (e ∷ x ∷ xs) (x ∷ put e xs)

put-rises : (low e : ℕ) (xs : List ℕ) → low ≤ e → AreJoins low xs → AreJoins low (put e xs)
put-rises low e [] l up = (l, tt)
put-rises low e (x ∷ xs) l up = by (nat_le e x) refl (λ more. put-rises x e xs more up.1)
  where
    by : (b : Bool) → nat_le e x ≡ b → (x ≤ e → AreJoins x (put e xs)) → AreJoins low (cond b (e ∷ x ∷ xs) (x ∷ put e xs))
    by true t rest = (l, (leb-true e x t, up.1))
    by false t rest = (up.0, rest (le_of_lt (leb-false e x t)))

put-same : (e : ℕ) (xs : List ℕ) → IsPermutation (e ∷ xs) (put e xs)
put-same e [] = IsPermutation-refl (e ∷ [])
put-same e (x ∷ xs) = by (nat_le e x) (put-same e xs)
  where
    by : (b : Bool) → IsPermutation (e ∷ xs) (put e xs) → IsPermutation (e ∷ x ∷ xs) (cond b (e ∷ x ∷ xs) (x ∷ put e xs))
    by true rest = IsPermutation-refl (e ∷ x ∷ xs)
    by false rest =
        IsPermutation-trans (e ∷ x ∷ xs) (x ∷ e ∷ xs) (x ∷ put e xs)
        (IsPermutation-sym (x ∷ e ∷ xs) (e ∷ x ∷ xs) (IsPermutation-middle (x ∷ []) e xs))
        (IsPermutation-cons x (e ∷ xs) (put e xs) rest)

-- the named moments in order
pub rising : (named : List ℕ) → OrderedMoments named
rising [] = record { moments = []; never_falls = tt; same = IsPermutation-refl [] }
rising (e ∷ es) =
    let rest = rising es in record {
      moments = put e rest.moments;
      never_falls = put-rises 0 e rest.moments zero-le rest.never_falls;
      same =
          IsPermutation-trans (e ∷ es) (e ∷ rest.moments) (put e rest.moments)
          (IsPermutation-cons e es rest.moments rest.same) (put-same e rest.moments);
    }
