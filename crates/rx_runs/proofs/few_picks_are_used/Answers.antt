use Rattle.rx_runs.proofs.Single.{few_picks}
use Rattle.rx_runs.proofs.few_picks_are_used.Goals as goal

pub returns : goal.returns
returns c = few_picks
