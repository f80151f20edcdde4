use Rattle.std.proofs.Common.{◌≡◌, ◌-◌, length, drop}
use Rattle.rx_rules.proofs.Common.{Block}
use Rattle.rx_syntax.specs.Shape.{BlockStands}
use Rattle.rx_order.specs.Inside.Parts.{is_kept_along}
use Rattle.rx_order.proofs.kept.is_kept.Given as goal

-- the answer is that of what is left
abbrev pub invariant-loop-at : goal.invariant-loop-at
invariant-loop-at l =
    (b : Block) → BlockStands l.script l.fn.top b → (c : Block) × BlockStands l.script l.block c × (is_kept_along b (drop l.fn.first l.x) ≡ is_kept_along c (drop l.at l.x))

abbrev pub decreases-loop-at : goal.decreases-loop-at
decreases-loop-at l = length l.x - l.at
