use Rattle.rx_tree_laws.proofs.Histories.{wide_fold_reached}
use Rattle.rx_tree_laws.proofs.wide_fold_is_reached.Goals as goal

pub returns : goal.returns
returns c = wide_fold_reached
