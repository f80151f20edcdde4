use Rattle.rx_tree_laws.proofs.Receiving.{call-so}
use Rattle.rx_tree_laws.proofs.stores_are_asked_at_home.Goals as goal

pub returns : goal.returns
returns c = call-so
