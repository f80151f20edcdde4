use Rattle.rx_worked.proofs.PlaceRuns.{counts_dead_runs}
use Rattle.rx_worked.proofs.places.dead_places_are_counted.Goals as goal

pub returns : goal.returns
returns c = counts_dead_runs
