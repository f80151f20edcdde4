-- A short script and its statements, on which the definitions compute.
use Rattle.std.specs.Prelude.{ℕ, pos, List, [], ◌∷◌}
use Rattle.rx_rules.specs.Code.{Block, Nothing, Then, Num, Async, Print}

-- async { print 1; } print 2;
abbrev pub script : Block
script = Then (Async (Then (Print (Num (pos 1))) Nothing)) (Then (Print (Num (pos 2))) Nothing)

-- its statements; the `async` is not before what follows it, and neither is the statement inside
abbrev pub statements : List (List ℕ)
statements = (0 ∷ []) ∷ (0 ∷ 0 ∷ []) ∷ (1 ∷ []) ∷ []
