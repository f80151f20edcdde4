use Rattle.rx_runs.proofs.Spending.{steps_bounded}
use Rattle.rx_runs.proofs.steps_are_bounded.Goals as goal

pub returns : goal.returns
returns c = steps_bounded
