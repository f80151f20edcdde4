-- The order of paths as a test, and how far two paths go together.
use Rattle.std.specs.Prelude.{◌≡◌, ℕ, zero, suc, Bool, true, false, cond, ◌==◌, nat_lt, List, [], ◌∷◌, slice_index_or}

-- the test of `Comes x y`
abbrev pub comes : List ℕ → List ℕ → Bool
comes [] [] = false
comes [] (j ∷ y) = true
comes (i ∷ x) [] = false
comes (i ∷ x) (j ∷ y) = cond (i == j) (comes x y) (nat_lt i j)

-- how many numbers from the front are the same
abbrev pub shared : List ℕ → List ℕ → ℕ
shared [] y = 0
shared (i ∷ x) [] = 0
shared (i ∷ x) (j ∷ y) = cond (i == j) (suc (shared x y)) 0

-- each path comes before the one before it in the list, and no path is there twice
abbrev pub Below : List ℕ → List (List ℕ) → Type 0
Below x [] = Unit {0}
Below x (y ∷ ys) = (comes y x ≡ true) × Below x ys

abbrev pub Descends : List (List ℕ) → Type 0
Descends [] = Unit {0}
Descends (x ∷ xs) = Below x xs × Descends xs

-- the path at a place of the list, or the empty one past its end
abbrev pub next_of : ℕ → List (List ℕ) → List ℕ
next_of at xs = slice_index_or xs at []

-- the first so many of them, the last first
abbrev pub backwards : ℕ → List (List ℕ) → List (List ℕ)
backwards zero xs = []
backwards (suc k) xs = next_of k xs ∷ backwards k xs
