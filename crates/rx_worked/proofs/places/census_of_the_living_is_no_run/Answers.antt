use Rattle.rx_worked.proofs.PlaceRuns.{living_excluded}
use Rattle.rx_worked.proofs.places.census_of_the_living_is_no_run.Goals as goal

pub returns : goal.returns
returns c = living_excluded
