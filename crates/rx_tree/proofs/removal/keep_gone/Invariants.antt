use Rattle.std.proofs.Common.{◌≡◌, ◌++◌, ◌&&◌, take, filter, is_some}
use Rattle.rx_tree.specs.Inside.Removal.{holds_scope}
use Rattle.rx_tree.proofs.removal.keep_gone.Given as goal

abbrev pub invariant-loop-x : goal.invariant-loop-x
invariant-loop-x l =
    l.gone.items ≡ l.initial.gone.items ++ filter (λ x. holds_scope l.fn.inside x.under && is_some x.struck) (take l.x-index l.tasks)
