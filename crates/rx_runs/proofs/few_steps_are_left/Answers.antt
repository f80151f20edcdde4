use Rattle.rx_runs.proofs.Left.{few_left}
use Rattle.rx_runs.proofs.few_steps_are_left.Goals as goal

pub returns : goal.returns
returns c = few_left
