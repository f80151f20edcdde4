-- The members of a set, place by place, and the lines of a list.
use Rattle.std.proofs.Common.{◌≡◌, ℕ, ◌+◌, ◌<◌, ◌^◌, Bool, true, false, cond, List, [], ◌∷◌, ◌++◌, drop, Some, refl, ap, sym, ◌∙◌, append_assoc, append-nil, filter, slice_get, codes}
use Rattle.std.specs.List.{flat_map}
use Rattle.rx_base.specs.declared.place_set.PlaceSet.{PlaceSet}
use Rattle.rx_base.specs.Sets.{all_places, has_bit, members}
use Rattle.rx_base.proofs.Members.{some-member, place-at}
use Rattle.rx_text.proofs.Lists.{left-more}
use Rattle.rx_monitor.specs.declared.summary.Summary.{Summary}
use Rattle.rx_monitor.specs.Text.{field, places_part, dead_part, line}

-- one line more
pub lines-more : (old out next : List ℕ) (xs : List Summary) (i : ℕ) (x : Summary) → slice_get xs i ≡ Some x → out ++ flat_map line (drop i xs) ≡ old → next ≡ out ++ line x → next ++ flat_map line (drop (i + 1) xs) ≡ old
lines-more old out next xs i x here whole is =
    ap (λ o. o ++ flat_map line (drop (i + 1) xs)) is
    ∙ append_assoc out (line x) (flat_map line (drop (i + 1) xs))
    ∙ ap (λ r. out ++ r) (sym (left-more (flat_map line) xs i x here)) ∙ whole

-- the fields of one place, if it is in the set, and of the others
one : (b : Bool) (p : ℕ) (rest : List ℕ) → flat_map field (cond b (p ∷ rest) rest) ≡ flat_map field (cond b (p ∷ []) []) ++ flat_map field rest
one true p rest = simp append_assoc
one false p rest = refl

-- one place more is written, if it is in the set
pub places-more : (set : ℕ) (old out next : List ℕ) (p : ℕ) → p < 16 → out ++ flat_map field (filter (has_bit set) (drop p all_places)) ≡ old → next ≡ out ++ flat_map field (filter (has_bit set) (p ∷ [])) → next ++ flat_map field (filter (has_bit set) (drop (p + 1) all_places)) ≡ old
places-more set old out next p below whole is =
    let F : List ℕ → List ℕ = λ ps. flat_map field (filter (has_bit set) ps) in
    ap (λ o. o ++ F (drop (p + 1) all_places)) is
    ∙ append_assoc out (F (p ∷ [])) (F (drop (p + 1) all_places))
    ∙ ap (λ r. out ++ r) (sym (left-more F all_places p p (place-at p below) ∙ one (has_bit set p) p (filter (has_bit set) (drop (p + 1) all_places)))) ∙ whole

part-some : (ps : List ℕ) → (ps ≡ [] → ⊥) → places_part ps ≡ codes " dead" ++ flat_map field ps
part-some [] some = absurd (some refl)
part-some (p ∷ ps) some = refl

-- the part of a set that has a member
pub dead-text : (set : PlaceSet) (old out next : List ℕ) → set.0 < 2 ^ 16 → (set.0 ≡ 0 → ⊥) → out ≡ old ++ codes " dead" → next ≡ out ++ flat_map field (members set) → next ≡ old ++ dead_part set
unfolding dead_part
dead-text set old out next small not_zero word is =
    is ∙ ap (λ o. o ++ flat_map field (members set)) word
    ∙ append_assoc old (codes " dead") (flat_map field (members set))
    ∙ ap (λ r. old ++ r) (sym (part-some (members set) (some-member set small not_zero)))

-- the part of a set that has none
pub dead-none : (set : PlaceSet) (out : List ℕ) → set.0 ≡ 0 → out ≡ out ++ dead_part set
unfolding dead_part
dead-none set out none =
    let part : ℕ → List ℕ = λ n. dead_part (record { 0 = n }) in
    sym (ap (λ r. out ++ r) (ap part none) ∙ append-nil out)
