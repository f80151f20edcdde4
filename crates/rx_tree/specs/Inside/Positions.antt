-- Where a search in a list stops, and what order it needs.
use Rattle.std.specs.Prelude.{◌≡◌, ℕ, ◌+◌, ◌<◌, ◌≤◌, Bool, true, false, List, ◌∷◌, Some, length, drop, slice_index_or}
use Rattle.rx_base.specs.declared.ids.ScopeId.{ScopeId}
use Rattle.rx_rules.specs.declared.tasks.Task.{Task}
use Rattle.rx_rules.specs.declared.tasks.Scope.{Scope}
use Rattle.rx_rules.specs.Tree.{Tree, chain_in}

-- the element at i is the first that passes
abbrev pub IsFirst : {X : Type 0} → (X → Bool) → List X → ℕ → Type 0
IsFirst {X = X} p xs i =
    (i < length xs) × ((d : X) → p (slice_index_or xs i d) ≡ true) × ((k : ℕ) (d : X) → k < i → p (slice_index_or xs k d) ≡ false)

-- none passes
abbrev pub PassesNone : {X : Type 0} → (X → Bool) → List X → Type 0
PassesNone {X = X} p xs = (k : ℕ) (d : X) → k < length xs → p (slice_index_or xs k d) ≡ false

-- each number is above those that stand after it
abbrev pub FallsIn : {X : Type 0} → (X → ℕ) → List X → Type 0
FallsIn {X = X} f xs = (i j : ℕ) (d : X) → i < j → j < length xs → f (slice_index_or xs j d) < f (slice_index_or xs i d)

-- so stand tasks by their numbers
abbrev pub TasksFallIn : List Task → Type 0
TasksFallIn xs = FallsIn (λ x. x.number.0) xs

-- and scopes
abbrev pub ScopesFallIn : List Scope → Type 0
ScopesFallIn gs = FallsIn (λ g. g.number.0) gs

-- the rows of a tree stand in the order of their numbers, the newest first
pub record RowsInOrder (T : Tree) : Type 0 where
  pub tasks : TasksFallIn T.tasks
  pub scopes : ScopesFallIn T.scopes

-- in the rows from `start` on, the chain of the scope begins at row i and goes on behind it
abbrev pub BeginsAt : List Scope → ℕ → ScopeId → ℕ → Type 0
BeginsAt gs start s i =
    (start ≤ i) × (i < length gs) × ((d : Scope) → chain_in (drop start gs)
    (Some s) ≡ slice_index_or gs i d ∷ chain_in (drop (i + 1) gs) (slice_index_or gs i d).parent)
