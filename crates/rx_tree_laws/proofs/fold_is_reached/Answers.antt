use Rattle.rx_tree_laws.proofs.Histories.{fold_reached}
use Rattle.rx_tree_laws.proofs.fold_is_reached.Goals as goal

pub returns : goal.returns
returns c = fold_reached
