-- The members of a set, place by place.
use Rattle.std.proofs.Common.{◌≡◌, ℕ, ◌+◌, ◌<◌, ◌^◌, Bool, true, false, cond, List, [], ◌∷◌, ◌++◌, drop, refl, ap, sym, ◌∙◌, append_assoc, append-nil, filter, codes}
use Rattle.std.specs.List.{flat_map}
use Rattle.rx_rules.proofs.Common.{PlaceSet, all_places, has_bit, members}
use Rattle.rx_base.proofs.Members.{some-member, place-at}
use Rattle.rx_text.proofs.Lists.{left-more}
use Rattle.rx_trace.specs.Fields.{natural_field}
use Rattle.rx_trace.specs.Parts.{lost_part}
use Rattle.rx_trace.proofs.Lines.{part-some}

-- the fields of one place, if it is in the set, and of the others
one : (b : Bool) (p : ℕ) (rest : List ℕ) → flat_map natural_field (cond b (p ∷ rest) rest) ≡ flat_map natural_field (cond b (p ∷ []) []) ++ flat_map natural_field rest
one true p rest = simp append_assoc
one false p rest = refl

-- one place more is written, if it is in the set
pub places-more : (set : ℕ) (old out next : List ℕ) (p : ℕ) → p < 16 → out ++ flat_map natural_field (filter (has_bit set) (drop p all_places)) ≡ old → next ≡ out ++ flat_map natural_field (filter (has_bit set) (p ∷ [])) → next ++ flat_map natural_field (filter (has_bit set) (drop (p + 1) all_places)) ≡ old
places-more set old out next p below whole is =
    let F : List ℕ → List ℕ = λ ps. flat_map natural_field (filter (has_bit set) ps) in
    ap (λ o. o ++ F (drop (p + 1) all_places)) is
    ∙ append_assoc out (F (p ∷ [])) (F (drop (p + 1) all_places))
    ∙ ap (λ r. out ++ r) (sym (left-more F all_places p p (place-at p below) ∙ one (has_bit set p) p (filter (has_bit set) (drop (p + 1) all_places)))) ∙ whole

-- the part of a set that has a member
pub lost-text : (set : PlaceSet) (old out next : List ℕ) → set.0 < 2 ^ 16 → (set.0 ≡ 0 → ⊥) → out ≡ old ++ codes " lost" → next ≡ out ++ flat_map natural_field (members set) → next ≡ old ++ lost_part set
unfolding lost_part
lost-text set old out next small not_zero word is =
    is ∙ ap (λ o. o ++ flat_map natural_field (members set)) word
    ∙ append_assoc old (codes " lost") (flat_map natural_field (members set))
    ∙ ap (λ r. old ++ r) (sym (part-some (codes " lost") natural_field (members set) (some-member set small not_zero)))

-- the part of a set that has none
pub lost-none : (set : PlaceSet) (out : List ℕ) → set.0 ≡ 0 → out ≡ out ++ lost_part set
unfolding lost_part
lost-none set out none =
    let part : ℕ → List ℕ = λ n. lost_part (record { 0 = n }) in
    sym (ap (λ r. out ++ r) (ap part none) ∙ append-nil out)
