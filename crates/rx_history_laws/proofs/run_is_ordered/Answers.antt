use Rattle.rx_history_laws.proofs.JournalOrder.{run-order}
use Rattle.rx_history_laws.proofs.run_is_ordered.Goals as goal

pub returns : goal.returns
returns c = run-order
