use Rattle.rx_worked.proofs.PlaceRuns.{unknown_excluded}
use Rattle.rx_worked.proofs.places.start_at_an_unknown_place_is_no_run.Goals as goal

pub returns : goal.returns
returns c = unknown_excluded
