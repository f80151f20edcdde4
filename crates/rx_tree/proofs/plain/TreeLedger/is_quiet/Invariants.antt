use Rattle.std.proofs.Common.{◌≡◌, drop, ◌&&◌, is_none}
use Rattle.std.specs.List.{list_any}
use Rattle.rx_rules.proofs.Common.{is_under}
use Rattle.rx_tree.specs.Kept.{kept}
use Rattle.rx_tree.proofs.plain.TreeLedger.is_quiet.Given as goal

abbrev pub invariant-loop-x : goal.invariant-loop-x
invariant-loop-x l =
    list_any (λ y. is_under (kept l.fn.self) l.fn.s y && is_none y.struck) l.fn.self.tasks.items
    ≡ list_any (λ y. is_under (kept l.fn.self) l.fn.s y && is_none y.struck) (drop l.x-index l.fn.self.tasks.items)
