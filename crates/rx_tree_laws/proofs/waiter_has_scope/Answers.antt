use Rattle.rx_tree_laws.proofs.Waiting.{waiter_owns}
use Rattle.rx_tree_laws.proofs.waiter_has_scope.Goals as goal

pub returns : goal.returns
returns c = waiter_owns
