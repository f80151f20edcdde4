-- What contracts see of a set of numbers, and what a change makes of it.
use Rattle.std.specs.Prelude.{ℕ, ◌+◌, ◌≤◌, Bool, true, false, List, [], ◌∷◌, nat_lt, ◌==◌, not, if◌then◌else◌, filter}

-- a set of numbers: its numbers in ascending order, and its room, below which each of them is
pub record Numbers : Type 0 where
  pub members : List ℕ
  pub room : ℕ

-- the numbers of the list ascend, and the first is not below a
abbrev pub Ascends : ℕ → List ℕ → Type 0
Ascends a [] = Unit {0}
Ascends a (x ∷ xs) = (a ≤ x) × Ascends (x + 1) xs

-- an ascending list with x put in at its place, where it is not there already
unfoldable pub inserted : ℕ → List ℕ → List ℕ
inserted x [] = x ∷ []
inserted x (y ∷ ys) = if nat_lt x y then x ∷ y ∷ ys else if x == y then y ∷ ys else y ∷ inserted x ys

-- a list without x
abbrev pub removed : ℕ → List ℕ → List ℕ
removed x ys = filter (λ y. not (y == x)) ys

-- a list with x put in, or without it
abbrev pub marked : Bool → ℕ → List ℕ → List ℕ
marked true x ys = inserted x ys
marked false x ys = removed x ys
