use Rattle.rx_runs.proofs.Knowing.{comes_knowing}
use Rattle.rx_runs.proofs.known_places_are_there.Goals as goal

pub returns : goal.returns
returns c = comes_knowing
