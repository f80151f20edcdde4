use Rattle.rx_runs.proofs.Comings.{goes_on}
use Rattle.rx_runs.proofs.games_go_on.Goals as goal

pub returns : goal.returns
returns c = goes_on
