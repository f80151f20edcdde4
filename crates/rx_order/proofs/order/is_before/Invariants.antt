use Rattle.std.proofs.Common.{◌≡◌, ◌-◌, length, drop}
use Rattle.rx_rules.proofs.Common.{Block, comes_before}
use Rattle.rx_syntax.specs.Shape.{Stands, BlockStands}
use Rattle.rx_order.proofs.order.is_before.Given as goal

-- the answer is that of what is left of both
abbrev pub invariant-loop-at : goal.invariant-loop-at
invariant-loop-at l =
    (t : Block) → Stands l.script t → (b : Block) × BlockStands l.script l.block b × (comes_before t l.x l.y ≡ comes_before b (drop l.at l.x) (drop l.at l.y))

abbrev pub decreases-loop-at : goal.decreases-loop-at
decreases-loop-at l = length l.x - l.at
