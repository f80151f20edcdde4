use Rattle.rx_tree_laws.proofs.Rooting.{root_stands}
use Rattle.rx_tree_laws.proofs.root_stands_until_released.Goals as goal

pub returns : goal.returns
returns c = root_stands
