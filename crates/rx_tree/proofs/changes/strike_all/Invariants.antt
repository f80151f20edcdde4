use Rattle.std.proofs.Common.{◌≡◌, ◌++◌, drop, take, map}
use Rattle.rx_rules.proofs.Common.{hit}
use Rattle.rx_tree.proofs.changes.strike_all.Given as goal

abbrev pub invariant-loop-x : goal.invariant-loop-x
invariant-loop-x l = l.tasks ≡ map (hit l.fn.blow) (take l.x-index l.initial.tasks) ++ drop l.x-index l.initial.tasks
