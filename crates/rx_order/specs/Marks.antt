-- What each number of a path stands for.
use Rattle.std.specs.Prelude.{ℕ, zero, suc, List, [], ◌∷◌}
use Rattle.rx_rules.specs.Code.{Stmt, Async, AtAsync, At, Finish, If, Repeat, Try, Block, Nothing, Then}
use Rattle.rx_order.specs.declared.marks.Role.{Role}
use Rattle.rx_order.specs.declared.marks.Role.TheVariants.{Starts, Waits, Follows, Branches}

-- of the position of a statement
abbrev pub mark_of : Stmt → Role
mark_of (Async body) = Starts
mark_of (AtAsync place body) = Starts
mark_of (Finish body) = Waits
mark_of s = Follows

-- of each number along x, from a statement on
abbrev mutual
  pub marks : Stmt → List ℕ → List Role
  marks (Async body) (i ∷ x) = marks_in body i x
  marks (AtAsync place body) (i ∷ x) = marks_in body i x
  marks (At place body) (i ∷ x) = marks_in body i x
  marks (Finish body) (i ∷ x) = marks_in body i x
  marks (If test first other) (zero ∷ i ∷ x) = Branches ∷ marks_in first i x
  marks (If test first other) (suc zero ∷ i ∷ x) = Branches ∷ marks_in other i x
  marks (Repeat times body) (k ∷ i ∷ x) = Follows ∷ marks_in body i x
  marks (Try body dead_only handler) (zero ∷ i ∷ x) = Follows ∷ marks_in body i x
  marks (Try body dead_only handler) (suc zero ∷ i ∷ x) = Branches ∷ marks_in handler i x
  marks s x = []

  -- from the statement at position i on
  pub marks_in : Block → ℕ → List ℕ → List Role
  marks_in Nothing i x = []
  marks_in (Then first rest) zero x = mark_of first ∷ marks first x
  marks_in (Then first rest) (suc i) x = marks_in rest i x

-- of a whole path of a script
abbrev pub marks_of : Block → List ℕ → List Role
marks_of code [] = []
marks_of code (i ∷ x) = marks_in code i x
