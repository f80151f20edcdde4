use Rattle.rx_runs.proofs.Bounding.{turns_bounded}
use Rattle.rx_runs.proofs.turns_are_bounded.Goals as goal

pub returns : goal.returns
returns c = turns_bounded
