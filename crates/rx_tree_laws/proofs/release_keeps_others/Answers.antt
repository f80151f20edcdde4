use Rattle.rx_tree_laws.proofs.Owning.{release_keeps}
use Rattle.rx_tree_laws.proofs.release_keeps_others.Goals as goal

pub returns : goal.returns
returns c = release_keeps
