use Rattle.std.proofs.Common.{◌≡◌, ◌-◌, ◌≤◌, length, drop, Some}
use Rattle.std.specs.List.{list_any}
use Rattle.rx_rules.proofs.Common.{is_scope, chain_in}
use Rattle.rx_tree.proofs.lookups.reaches.Given as goal

abbrev pub invariant-up : goal.invariant-up
invariant-up l =
    (l.start ≤ length l.scopes)
    × (list_any (is_scope l.fn.s) (chain_in l.scopes (Some l.fn.from)) ≡ list_any (is_scope l.fn.s) (chain_in (drop l.start l.scopes) (Some l.want)))

abbrev pub decreases-up : goal.decreases-up
decreases-up l = length l.scopes - l.start
