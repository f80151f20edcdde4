use Rattle.rx_runs.proofs.Knowing.{turn_knowing}
use Rattle.rx_runs.proofs.known_places_stay.Goals as goal

pub returns : goal.returns
returns c = turn_knowing
