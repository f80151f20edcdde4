use Rattle.rx_worked.proofs.PlaceRuns.{never_counted_runs}
use Rattle.rx_worked.proofs.places.joined_place_is_unknown.Goals as goal

pub returns : goal.returns
returns c = never_counted_runs
