use Rattle.rx_tree_laws.proofs.Freeing.{frees_one}
use Rattle.rx_tree_laws.proofs.end_frees_one.Goals as goal

pub returns : goal.returns
returns c = frees_one
