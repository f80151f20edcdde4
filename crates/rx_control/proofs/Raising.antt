-- The faults of the places of a set, one place after another.
use Rattle.std.proofs.Common.{◌≡◌, ℕ, ◌+◌, ◌<◌, true, false, List, [], ◌∷◌, ◌++◌, map, filter, drop, Some, slice_get, length, refl, ap, ◌∙◌, sym, subst}
use Rattle.std.proofs.lemmas.List.{at_drop_more, append_assoc, append-nil}
use Rattle.std.proofs.lemmas.Option.{slice_get_within, get_or_from_slice_get}
use Rattle.rx_rules.proofs.Common.{PlaceSet, Fault, Dead, all_places, has_bit, members}
use Rattle.rx_base.proofs.Elements.{empty-from}
use Rattle.rx_base.proofs.Members.{place-at}

next_place : (p : ℕ) → p < 16 → drop p all_places ≡ p ∷ drop (p + 1) all_places
next_place p h =
    let g : slice_get all_places p ≡ Some p = place-at p h in
    at_drop_more {Y = List ℕ} (λ l. l) all_places p p (slice_get_within all_places p p g) ∙ ap (λ y. y ∷ drop (p + 1) all_places) (get_or_from_slice_get all_places p p p g)

-- the faults of the members from a place on
abbrev pub raised_from : PlaceSet → ℕ → List Fault
raised_from lost p = map (λ n. Dead (record { 0 = n })) (filter (has_bit lost.0) (drop p all_places))

-- all of them
abbrev pub raised_all : PlaceSet → List Fault
raised_all lost = map (λ n. Dead (record { 0 = n })) (members lost)

pub raises-one : (lost : PlaceSet) (fs : List Fault) (p : ℕ) → p < 16 → has_bit lost.0 p ≡ true → fs ++ raised_from lost p ≡ raised_all lost → (fs ++ Dead (record { 0 = p }) ∷ []) ++ raised_from lost (p + 1) ≡ raised_all lost
raises-one lost fs p h e so =
    let here : raised_from lost p ≡ Dead (record { 0 = p }) ∷ raised_from lost (p + 1) =
    ap (λ ps. map (λ n. Dead (record { 0 = n })) (filter (has_bit lost.0) ps)) (next_place p h) ∙ rw e refl in
    append_assoc fs (Dead (record { 0 = p }) ∷ []) (raised_from lost (p + 1)) ∙ (ap (λ gs. fs ++ gs) (sym here) ∙ so)

pub raises-none : (lost : PlaceSet) (fs : List Fault) (p : ℕ) → p < 16 → has_bit lost.0 p ≡ false → fs ++ raised_from lost p ≡ raised_all lost → fs ++ raised_from lost (p + 1) ≡ raised_all lost
raises-none lost fs p h e so =
    let here : raised_from lost p ≡ raised_from lost (p + 1) =
    ap (λ ps. map (λ n. Dead (record { 0 = n })) (filter (has_bit lost.0) ps)) (next_place p h) ∙ rw e refl in
    ap (λ gs. fs ++ gs) (sym here) ∙ so

-- after the last place none are left
pub raises-all : (lost : PlaceSet) (fs : List Fault) (p : ℕ) → p ≡ 16 → fs ++ raised_from lost p ≡ raised_all lost → fs ≡ raised_all lost
raises-all lost fs p e so =
    let nothing : fs ++ raised_from lost 16 ≡ raised_all lost = subst (λ (n : ℕ). fs ++ raised_from lost n ≡ raised_all lost) e so in
    sym (append-nil fs) ∙ nothing

pub same-set : (lost set : PlaceSet) → lost.0 ≡ set.0 → lost ≡ set
same-set lost set e = ap (λ n. record { 0 = n }) e

-- a release that lost no place and has no faults raises none
pub raises-nothing : (lost set : PlaceSet) (thrown : List Fault) → lost ≡ set → members set ≡ [] → length thrown ≡ 0 → [] ≡ raised_all lost ++ thrown
raises-nothing lost set thrown e m n =
    sym (ap (λ fs. fs ++ thrown) (ap raised_all e ∙ ap (map (λ n. Dead (record { 0 = n }))) m) ∙ empty-from thrown n)
