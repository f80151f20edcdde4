use Rattle.std.proofs.Common.{◌≡◌, drop, ◌&&◌, find, is_none}
use Rattle.rx_rules.proofs.Common.{is_under}
use Rattle.rx_tree.specs.Kept.{kept}
use Rattle.rx_tree.proofs.plain.TreeLedger.hindrance.Given as goal

abbrev pub invariant-loop-x : goal.invariant-loop-x
invariant-loop-x l =
    find (λ y. is_under (kept l.fn.self) l.fn.s y && is_none y.struck) l.fn.self.tasks.items
    ≡ find (λ y. is_under (kept l.fn.self) l.fn.s y && is_none y.struck) (drop l.x-index l.fn.self.tasks.items)
