use Rattle.rx_tree_laws.proofs.Targets.{targets-exist}
use Rattle.rx_tree_laws.proofs.named_places_are_there.Goals as goal

pub returns : goal.returns
returns c = targets-exist
