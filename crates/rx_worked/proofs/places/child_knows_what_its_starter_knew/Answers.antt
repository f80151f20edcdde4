use Rattle.rx_worked.proofs.PlaceRuns.{counted_later_runs}
use Rattle.rx_worked.proofs.places.child_knows_what_its_starter_knew.Goals as goal

pub returns : goal.returns
returns c = counted_later_runs
