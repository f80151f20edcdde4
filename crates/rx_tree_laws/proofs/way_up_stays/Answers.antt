use Rattle.rx_tree_laws.proofs.Freeing.{way_stays}
use Rattle.rx_tree_laws.proofs.way_up_stays.Goals as goal

pub returns : goal.returns
returns c = way_stays
