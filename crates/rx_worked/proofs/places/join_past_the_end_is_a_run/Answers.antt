use Rattle.rx_worked.proofs.PlaceRuns.{never_joined_runs}
use Rattle.rx_worked.proofs.places.join_past_the_end_is_a_run.Goals as goal

pub returns : goal.returns
returns c = never_joined_runs
