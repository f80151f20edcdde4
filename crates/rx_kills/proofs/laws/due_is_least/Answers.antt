use Rattle.rx_kills.proofs.Order.{least}
use Rattle.rx_kills.proofs.laws.due_is_least.Goals as goal

pub returns : goal.returns
returns c = least
