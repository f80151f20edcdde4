use Rattle.rx_runs.proofs.Bounding.{entries_bounded}
use Rattle.rx_runs.proofs.entries_are_bounded.Goals as goal

pub returns : goal.returns
returns c = entries_bounded
