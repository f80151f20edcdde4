use Rattle.rx_tree_laws.proofs.Staying.{others_stay}
use Rattle.rx_tree_laws.proofs.others_stay_enabled.Goals as goal

pub returns : goal.returns
returns c = others_stay
