-- Sets of places as ascending lists, from 0 to 15.
use Rattle.std.specs.Prelude.{◌≡◌, ℕ, ◌/◌, ◌%◌, ◌^◌, ◌<◌, ◌==◌, List, [], ◌∷◌, filter, Bool}
use Rattle.rx_base.specs.declared.place_set.PlaceSet.{PlaceSet}

-- the places that there can be, in ascending order
abbrev pub all_places : List ℕ
all_places = 0 ∷ 1 ∷ 2 ∷ 3 ∷ 4 ∷ 5 ∷ 6 ∷ 7 ∷ 8 ∷ 9 ∷ 10 ∷ 11 ∷ 12 ∷ 13 ∷ 14 ∷ 15 ∷ []

-- whether bit p of m is set
abbrev pub has_bit : ℕ → ℕ → Bool
has_bit m p = ((m / (2 ^ p)) % 2) == 1

-- the places of a set, in ascending order
abbrev pub members : PlaceSet → List ℕ
members s = filter (has_bit s.0) all_places

-- sets with the same members are one
abbrev pub MembersMakeTheSet : Type 0
MembersMakeTheSet = (a b : PlaceSet) → a.0 < 2 ^ 16 → b.0 < 2 ^ 16 → members a ≡ members b → a ≡ b
