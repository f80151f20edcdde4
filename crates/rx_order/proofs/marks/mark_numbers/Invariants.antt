use Rattle.std.proofs.Common.{◌≡◌, ◌-◌, ◌++◌, length, drop}
use Rattle.rx_rules.proofs.Common.{Block}
use Rattle.rx_syntax.specs.Shape.{Stands, BlockStands}
use Rattle.rx_order.specs.Marks.{marks_of}
use Rattle.rx_order.specs.Inside.Parts.{marks_along}
use Rattle.rx_order.proofs.marks.mark_numbers.Given as goal

-- the marks so far and those of what is left of the path
abbrev pub invariant-loop-at : goal.invariant-loop-at
invariant-loop-at l =
    (t : Block) → Stands l.script t → (b : Block) × BlockStands l.script l.block b × (marks_of t l.x ≡ l.marks.items ++ marks_along b (drop l.at l.x))

abbrev pub decreases-loop-at : goal.decreases-loop-at
decreases-loop-at l = length l.x - l.at
