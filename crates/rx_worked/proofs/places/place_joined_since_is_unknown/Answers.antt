use Rattle.rx_worked.proofs.PlaceRuns.{joined_since_runs}
use Rattle.rx_worked.proofs.places.place_joined_since_is_unknown.Goals as goal

pub returns : goal.returns
returns c = joined_since_runs
