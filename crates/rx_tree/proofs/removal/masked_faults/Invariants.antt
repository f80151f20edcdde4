use Rattle.std.proofs.Common.{◌≡◌, ◌++◌, ◌&&◌, min, not, filter, length, sum_by, take}
use Rattle.rx_rules.proofs.Common.{is_scope}
use Rattle.rx_tree.specs.Inside.Removal.{holds_scope}
use Rattle.rx_tree.proofs.removal.masked_faults.Given as goal

abbrev pub invariant-loop-g : goal.invariant-loop-g
invariant-loop-g l =
    l.masked
    ≡ min 4294967295
    (sum_by (λ g. length (g.body ++ g.ends))
    (filter (λ g. holds_scope l.fn.inside g.number && not (is_scope l.fn.released g)) (take l.g-index l.scopes)))
