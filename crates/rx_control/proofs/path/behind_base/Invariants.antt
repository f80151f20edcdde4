use Rattle.std.proofs.Common.{◌≡◌, ◌++◌, ℕ, List, drop, ◌↔◌}
use Rattle.rx_control.proofs.path.behind_base.Given as goal

-- the path goes on behind the base as what is left goes on behind what is left of the base
abbrev pub invariant-loop-number : goal.invariant-loop-number
invariant-loop-number l = (rest : List ℕ) → (l.path ≡ l.base ++ rest) ↔ (l.left ≡ drop l.number-index l.base ++ rest)
