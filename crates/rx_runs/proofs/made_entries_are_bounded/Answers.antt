use Rattle.rx_runs.proofs.Entering.{made_bounded}
use Rattle.rx_runs.proofs.made_entries_are_bounded.Goals as goal

pub returns : goal.returns
returns c = made_bounded
