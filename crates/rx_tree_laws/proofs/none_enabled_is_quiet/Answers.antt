use Rattle.rx_tree_laws.proofs.Enabling.{none_left}
use Rattle.rx_tree_laws.proofs.none_enabled_is_quiet.Goals as goal

pub returns : goal.returns
returns c = none_left
