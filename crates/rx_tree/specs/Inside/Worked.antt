-- The tree of a worked history.
use Rattle.std.specs.Prelude.{take}
use Rattle.rx_rules.specs.Tree.{Tree}
use Rattle.rx_rules.specs.Fold.{tree_of}
use Rattle.rx_rules.specs.Examples.{masked_fault}

-- before place 1 dies: task 0 waits for task 1, and task 1 at place 1 for task 2, which is at place 2
abbrev pub two_deep : Tree
two_deep = tree_of 3 (take 8 masked_fault)
