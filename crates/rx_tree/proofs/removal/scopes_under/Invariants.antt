use Rattle.std.proofs.Common.{◌≡◌, take, map, filter, Some}
use Rattle.std.specs.List.{list_any}
use Rattle.rx_rules.proofs.Common.{is_scope, chain_in}
use Rattle.rx_tree.proofs.removal.scopes_under.Given as goal

abbrev pub invariant-loop-g : goal.invariant-loop-g
invariant-loop-g l =
    l.inside.items ≡ map (λ g. g.number) (filter (λ g. list_any (is_scope l.fn.s) (chain_in l.scopes (Some g.number))) (take l.g-index l.scopes))
