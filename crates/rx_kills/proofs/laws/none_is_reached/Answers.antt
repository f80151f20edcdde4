use Rattle.rx_kills.proofs.Order.{none}
use Rattle.rx_kills.proofs.laws.none_is_reached.Goals as goal

pub returns : goal.returns
returns c = none
