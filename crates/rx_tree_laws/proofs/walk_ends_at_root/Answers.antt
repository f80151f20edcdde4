use Rattle.rx_tree_laws.proofs.Freeing.{walk_ends}
use Rattle.rx_tree_laws.proofs.walk_ends_at_root.Goals as goal

pub returns : goal.returns
returns c = walk_ends
