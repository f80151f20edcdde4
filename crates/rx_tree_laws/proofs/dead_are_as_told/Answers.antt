use Rattle.rx_tree_laws.proofs.Histories.{dead_as_told}
use Rattle.rx_tree_laws.proofs.dead_are_as_told.Goals as goal

pub returns : goal.returns
returns c = dead_as_told
