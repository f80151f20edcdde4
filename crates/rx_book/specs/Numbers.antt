-- Caller numbers: lists of numbers.
use Rattle.std.specs.Prelude.{ℕ, ◌==◌, ◌&&◌, Bool, true, false, List, [], ◌∷◌, ◌++◌}

-- whether two numbers are one
abbrev pub is_same : List ℕ → List ℕ → Bool
is_same [] [] = true
is_same [] (y ∷ ys) = false
is_same (x ∷ xs) [] = false
is_same (x ∷ xs) (y ∷ ys) = (x == y) && is_same xs ys

-- the number of the k-th pass split from c
abbrev pub child : List ℕ → ℕ → List ℕ
child c k = c ++ k ∷ []
