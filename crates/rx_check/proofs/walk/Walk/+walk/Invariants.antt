use Rattle.std.proofs.Common.{ℕ, ◌+◌, ◌-◌, ◌*◌, ◌≤◌, List}
use Rattle.rx_rules.proofs.Common.{Block}
use Rattle.rx_syntax.specs.Shape.{BlockStands}
use Rattle.rx_check.specs.Inside.Walk.{Extends, KnowsNames}
use Rattle.rx_check.proofs.Going.{Going}
use Rattle.rx_check.proofs.walk.Walk.+walk.Given as goal

abbrev pub decreases-block : goal.decreases-block
decreases-block l = 3 * (33 - l.depth) + 2

abbrev pub decreases-inside : goal.decreases-inside
decreases-inside l = 3 * (33 - l.depth)

abbrev pub decreases-statement : goal.decreases-statement
decreases-statement l = 3 * (33 - l.depth) + 1

-- the statements so far are gone through
abbrev pub invariant-block-items : goal.invariant-block-items
invariant-block-items l =
    ((t : Block) (known : List ℕ) → KnowsNames l.fn.self.known.items known → BlockStands l.script l.block t → Going l.script l.block l.i l.depth l.work l.fn.self l.self t known)
    × Extends l.fn.self.known.items l.self.known.items
    × (l.work ≤ 100001)
