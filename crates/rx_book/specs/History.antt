-- Histories as plain lists of stamped items.
use Rattle.std.specs.Prelude.{ℕ, ◌^◌, ◌==◌, ◌||◌, Bool, false, Option, Some, None, List, [], ◌∷◌, map, if◌then◌else◌, bit_or}
use Rattle.rx_book.specs.declared.views.Stamped.{Stamped}
use Rattle.rx_book.specs.Numbers.{is_same}

-- the mask of one place, or of none
abbrev pub mark_of : Option ℕ → ℕ
mark_of None = 0
mark_of (Some p) = 2 ^ p

-- whether this is the place p
abbrev pub is_place : ℕ → Option ℕ → Bool
is_place p None = false
is_place p (Some q) = q == p

module _ {I : Type 0} where
  -- an item as an entry of the caller c
  abbrev pub stamped : List ℕ → I → Stamped I
  stamped c x = record { by = c; item = x }

  -- new items, as entries of the caller c
  abbrev pub stamp_all : List ℕ → List I → List (Stamped I)
  stamp_all c xs = map (stamped c) xs

  -- the items without their callers
  abbrev pub items_of : List (Stamped I) → List I
  items_of log = map (λ (e : Stamped I). e.item) log

  -- the entries of the caller c
  abbrev pub entries_by : List ℕ → List (Stamped I) → List (Stamped I)
  entries_by c [] = []
  entries_by c (e ∷ es) = if is_same e.by c then e ∷ entries_by c es else entries_by c es

  -- whether the death of the place p stands among these items
  abbrev pub has_death : (I → Option ℕ) → ℕ → List I → Bool
  has_death place p [] = false
  has_death place p (x ∷ xs) = is_place p (place x) || has_death place p xs

  -- the set of the deaths of these items: bit p stands for place p
  abbrev pub deaths_in : (I → Option ℕ) → List I → ℕ
  deaths_in place [] = 0
  deaths_in place (x ∷ xs) = bit_or (mark_of (place x)) (deaths_in place xs)

  -- the set of the deaths of these entries
  abbrev pub deaths_of : (I → Option ℕ) → List (Stamped I) → ℕ
  deaths_of place log = deaths_in place (items_of log)
