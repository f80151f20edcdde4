use Rattle.rx_runs.proofs.Going.{next_turn}
use Rattle.rx_runs.proofs.next_turn_exists.Goals as goal

pub returns : goal.returns
returns c = next_turn
