-- For each statement the longest chain that begins with it.
use Rattle.std.specs.Prelude.{ℕ, Bool, false, cond, nat_lt, List, [], ◌∷◌, length, filter}
use Rattle.rx_rules.specs.Code.{Block}
use Rattle.rx_rules.specs.Order.{comes_before}

-- whether x may be put before the chain
abbrev pub may_lead : Block → List ℕ → List (List ℕ) → Bool
may_lead code x [] = false
may_lead code x (y ∷ c) = comes_before code x y

-- the longer chain, and of two that are as long the first
abbrev pub better : List (List ℕ) → List (List ℕ) → List (List ℕ)
better c d = cond (nat_lt (length c) (length d)) d c

-- the first of the longest
abbrev pub pick : List (List (List ℕ)) → List (List ℕ)
pick [] = []
pick (c ∷ cs) = better c (pick cs)

-- for each statement the first of the longest chains that begin with it, of statements in ascending order
abbrev pub best_chains : Block → List (List ℕ) → List (List (List ℕ))
best_chains code [] = []
best_chains code (x ∷ xs) = (x ∷ pick (filter (may_lead code x) (best_chains code xs))) ∷ best_chains code xs
