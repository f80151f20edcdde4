use Rattle.rx_history.proofs.InOrder.{one-order}
use Rattle.rx_history.proofs.laws.kills_have_one_order.Goals as goal

pub returns : goal.returns
returns c = one-order
