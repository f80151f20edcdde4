use Rattle.rx_history_laws.proofs.HistoryOrder.{history-order}
use Rattle.rx_history_laws.proofs.history_is_ordered.Goals as goal

pub returns : goal.returns
returns c = history-order
