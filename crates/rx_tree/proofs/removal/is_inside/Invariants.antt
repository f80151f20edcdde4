use Rattle.std.proofs.Common.{◌≡◌, drop}
use Rattle.rx_tree.specs.Inside.Removal.{holds_scope}
use Rattle.rx_tree.proofs.removal.is_inside.Given as goal

abbrev pub invariant-loop-s : goal.invariant-loop-s
invariant-loop-s l = holds_scope l.inside l.fn.r ≡ holds_scope (drop l.s-index l.inside) l.fn.r
