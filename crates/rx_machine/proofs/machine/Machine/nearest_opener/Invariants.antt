use Rattle.std.proofs.Common.{◌≡◌, true}
use Rattle.rx_rules.proofs.Common.{Block, on_chain, the_root, Given, Game, tree_in}
use Rattle.rx_syntax.specs.Shape.{Shape}
use Rattle.rx_machine.specs.Holds.{CanTurn}
use Rattle.rx_machine.proofs.Walking.{IsOnWay}
use Rattle.rx_machine.proofs.machine.Machine.nearest_opener.Given as goal

-- the walk is on its way up
abbrev pub invariant-scopes : goal.invariant-scopes
invariant-scopes g l =
    (shape : Shape) (code : Block) (U : Given) (G : Game) → CanTurn shape code U l.self G → on_chain (tree_in U G) the_root l.fn.under ≡ true → IsOnWay (tree_in U G) l.fn.under l.scope

abbrev pub decreases-scopes : goal.decreases-scopes
decreases-scopes g l = l.scope.0
