use Rattle.rx_runs.proofs.Comings.{games_come}
use Rattle.rx_runs.proofs.games_come.Goals as goal

pub returns : goal.returns
returns c = games_come
