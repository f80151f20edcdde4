use Rattle.rx_tree_laws.proofs.Enabling.{greatest_enabled}
use Rattle.rx_tree_laws.proofs.greatest_is_enabled.Goals as goal

pub returns : goal.returns
returns c = greatest_enabled
