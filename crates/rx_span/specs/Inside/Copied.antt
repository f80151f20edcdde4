-- Paths that were copied, the numbers of one after those of the other.
use Rattle.std.specs.Prelude.{◌≡◌, ℕ, ◌≤◌, true, List, [], ◌∷◌, ◌++◌, map, length, drop, reverse}
use Rattle.rx_span.specs.declared.paths.Copies.{Copies}
use Rattle.rx_span.specs.Inside.Sorting.{Descends}

-- the numbers of these paths, one path after the other
abbrev pub joined : List (List ℕ) → List ℕ
joined [] = []
joined (x ∷ xs) = x ++ joined xs

-- the last of these paths, or the empty one
abbrev pub last_of : List (List ℕ) → List ℕ
last_of [] = []
last_of (x ∷ []) = x
last_of (x ∷ y ∷ xs) = last_of (y ∷ xs)

-- these paths are copied, and where they are said to ascend each comes after the one before it
pub record AreCopied (xs : List (List ℕ)) (c : Copies) : Type 0 where
  pub numbers : c.numbers.items ≡ joined xs
  pub lengths : c.lengths.items ≡ map length xs
  pub within : c.last ≤ length c.numbers.items
  pub last : drop c.last c.numbers.items ≡ last_of xs
  pub ascends : c.ascending ≡ true → Descends (reverse xs)
