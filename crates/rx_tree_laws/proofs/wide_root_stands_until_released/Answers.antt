use Rattle.rx_tree_laws.proofs.Rooting.{wide_root_stands}
use Rattle.rx_tree_laws.proofs.wide_root_stands_until_released.Goals as goal

pub returns : goal.returns
returns c = wide_root_stands
