use Rattle.rx_runs.proofs.Events.{going_tells}
use Rattle.rx_runs.proofs.going_tells.Goals as goal

pub returns : goal.returns
returns c = going_tells
