use Rattle.rx_worked.proofs.PlaceRuns.{joined_before_runs}
use Rattle.rx_worked.proofs.places.counted_place_is_known.Goals as goal

pub returns : goal.returns
returns c = joined_before_runs
