use Rattle.rx_tree_laws.proofs.Owning.{own_below}
use Rattle.rx_tree_laws.proofs.own_scopes_stand_below.Goals as goal

pub returns : goal.returns
returns c = own_below
