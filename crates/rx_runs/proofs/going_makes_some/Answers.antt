use Rattle.rx_runs.proofs.SomeWords.{goes_some}
use Rattle.rx_runs.proofs.going_makes_some.Goals as goal

pub returns : goal.returns
returns c = goes_some
