use Rattle.rx_tree_laws.proofs.Owning.{release_pops}
use Rattle.rx_tree_laws.proofs.release_pops_newest.Goals as goal

pub returns : goal.returns
returns c = release_pops
