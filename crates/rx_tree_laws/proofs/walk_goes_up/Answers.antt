use Rattle.rx_tree_laws.proofs.Freeing.{walk_goes_up}
use Rattle.rx_tree_laws.proofs.walk_goes_up.Goals as goal

pub returns : goal.returns
returns c = walk_goes_up
