use Rattle.rx_runs.proofs.Knowing.{goes_knowing}
use Rattle.rx_runs.proofs.going_tells_no_places.Goals as goal

pub returns : goal.returns
returns c = goes_knowing
