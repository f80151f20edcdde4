use Rattle.std.proofs.Common.{◌≡◌, find, drop}
use Rattle.rx_rules.proofs.Common.{is_task}
use Rattle.rx_tree.proofs.lookups.find_gone.Given as goal

abbrev pub invariant-loop-x : goal.invariant-loop-x
invariant-loop-x l = find (is_task l.fn.t) l.gone ≡ find (is_task l.fn.t) (drop l.x-index l.gone)
