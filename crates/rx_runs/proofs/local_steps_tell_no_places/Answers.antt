use Rattle.rx_runs.proofs.Knowing.{local_knows}
use Rattle.rx_runs.proofs.local_steps_tell_no_places.Goals as goal

pub returns : goal.returns
returns c = local_knows
