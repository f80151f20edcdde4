use Rattle.rx_tree_laws.proofs.Owning.{release_spares}
use Rattle.rx_tree_laws.proofs.release_spares_others.Goals as goal

pub returns : goal.returns
returns c = release_spares
