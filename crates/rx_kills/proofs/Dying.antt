-- Deaths, entry by entry.
use Rattle.std.proofs.Common.{◌≡◌, ◌≢◌, ℕ, zero, suc, ◌+◌, ◌<◌, ◌≤◌, Bool, true, false, cond, is_none, ◌==◌, List, [], ◌∷◌, ◌++◌, length, take, Option, Some, None, slice_get, slice_index_or, slice_set, refl, ap, sym, ◌∙◌, arith}
use Rattle.std.proofs.lemmas.Bool.{eqb-true, eq-eqb, true≢false}
use Rattle.std.proofs.lemmas.List.{get_or-set_same, get_or-set_other, get_or_default}
use Rattle.rx_base.proofs.Elements.{length-set}
use Rattle.rx_rules.proofs.Common.{PlaceId, death_number}
use Rattle.rx_rules.specs.declared.entries.Entry.{Entry}
use Rattle.rx_rules.specs.declared.entries.Entry.TheVariants.{Death}
use Rattle.rx_rules.proofs.Deaths.{death-push, first_of}
use Rattle.rx_kills.specs.Deaths.{AreDeaths}
use Rattle.rx_kills.specs.Inside.Noted.{with_death}

-- Entries up to a number.

pub take-next : {A : Type 0} (es : List A) (i : ℕ) (e : A) → slice_get es i ≡ Some e → take (suc i) es ≡ take i es ++ e ∷ []
take-next [] i e h = absurd cc
take-next (x ∷ es) zero e h = ap (λ y. y ∷ []) (cc h)
take-next (x ∷ es) (suc i) e h = ap (λ l. x ∷ l) (take-next es i e h)

pub length-front : {A : Type 0} (es : List A) (i : ℕ) → i ≤ length es → length (take i es) ≡ i
length-front es zero l = refl
length-front [] (suc i) l = absurd (omega arith)
length-front (x ∷ es) (suc i) l = ap suc (length-front es i (omega arith))

pub take-whole : {A : Type 0} (es : List A) (i : ℕ) → length es ≤ i → take i es ≡ es
take-whole [] zero l = refl
take-whole [] (suc i) l = refl
take-whole (x ∷ es) zero l = absurd (omega arith)
take-whole (x ∷ es) (suc i) l = ap (λ l. x ∷ l) (take-whole es i (omega arith))

-- Deaths noted.

nothing_after : (o : Option ℕ) → o ≡ first_of o None
nothing_after None = refl
nothing_after (Some k) = refl

noted : (ds : List (Option ℕ)) (n p : ℕ) (d : PlaceId) → p < length ds → (now : Bool) → (d.0 == p) ≡ now → (x : Option ℕ) → slice_index_or ds d.0 (Some 0) ≡ x
    → slice_index_or (with_death ds n (Death d)) p None ≡ first_of (slice_index_or ds p None) (death_number n (record { 0 = p }) (Death d ∷ []))
noted ds n p d low true is None x =
    let same : d.0 ≡ p = eqb-true d.0 p is in
    let none : slice_index_or ds p None ≡ None = ap (λ i. slice_index_or ds i None) (sym same) ∙ (get_or_default ds d.0 None (Some 0) (omega arith) ∙ x) in
    let set : with_death ds n (Death d) ≡ slice_set ds d.0 (Some n) = rw x refl in
    ap (λ l. slice_index_or l p None) set ∙ (ap (λ i. slice_index_or (slice_set ds d.0 (Some n)) i None) (sym same) ∙ (get_or-set_same ds d.0 (Some n) None (omega arith) ∙ sym (rw (none, is) refl)))
noted ds n p d low true is (Some k) x =
    let same : d.0 ≡ p = eqb-true d.0 p is in
    let some : slice_index_or ds p None ≡ Some k = ap (λ i. slice_index_or ds i None) (sym same) ∙ (get_or_default ds d.0 None (Some 0) (omega arith) ∙ x) in
    let set : with_death ds n (Death d) ≡ ds = rw x refl in
    ap (λ l. slice_index_or l p None) set ∙ (some ∙ sym (rw some refl))
noted ds n p d low false is None x =
    let other : p ≢ d.0 = λ v. true≢false (sym (eq-eqb d.0 p (sym v)) ∙ is) in
    let set : with_death ds n (Death d) ≡ slice_set ds d.0 (Some n) = rw x refl in
    ap (λ l. slice_index_or l p None) set ∙ (get_or-set_other ds d.0 p (Some n) None other ∙ (nothing_after (slice_index_or ds p None) ∙ ap (λ b. first_of (slice_index_or ds p None) (cond b (Some n) None)) (sym is)))
noted ds n p d low false is (Some k) x =
    let set : with_death ds n (Death d) ≡ ds = rw x refl in
    ap (λ l. slice_index_or l p None) set ∙ (nothing_after (slice_index_or ds p None) ∙ ap (λ b. first_of (slice_index_or ds p None) (cond b (Some n) None)) (sym is))

one : (ds : List (Option ℕ)) (n p : ℕ) (e : Entry) → p < length ds
    → slice_index_or (with_death ds n e) p None ≡ first_of (slice_index_or ds p None) (death_number n (record { 0 = p }) (e ∷ []))
one ds n p (Death d) low = noted ds n p d low (d.0 == p) refl (slice_index_or ds d.0 (Some 0)) refl
one ds n p _ low = nothing_after (slice_index_or ds p None)

long : (ds : List (Option ℕ)) (n : ℕ) (e : Entry) → length (with_death ds n e) ≡ length ds
long ds n (Death d) = by (is_none (slice_index_or ds d.0 (Some 0)))
  where
    by : (b : Bool) → length (cond b (slice_set ds d.0 (Some n)) ds) ≡ length ds
    by true = length-set ds d.0 (Some n)
    by false = refl
long ds n _ = refl

-- one entry more
pub deaths-next : (es : List Entry) (ds : List (Option ℕ)) (e : Entry) → AreDeaths es ds → AreDeaths (es ++ e ∷ []) (with_death ds (length es) e)
deaths-next es ds e h = record {
  all = long ds (length es) e ∙ h.all;
  each = λ p low.
      let fits : p < length ds = omega (arith, h.all) in
      let z : 0 + length es ≡ length es = omega arith in
      one ds (length es) p e fits
      ∙ (ap (λ o. first_of o (death_number (length es) (record { 0 = p }) (e ∷ []))) (h.each p low)
      ∙ (ap (λ n. first_of (death_number 0 (record { 0 = p }) es) (death_number n (record { 0 = p }) (e ∷ []))) (sym z)
      ∙ sym (death-push 0 (record { 0 = p }) es e)));
}
