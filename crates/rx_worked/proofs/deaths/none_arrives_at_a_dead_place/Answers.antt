use Rattle.rx_worked.proofs.DeathRefusals.{arrival_excluded}
use Rattle.rx_worked.proofs.deaths.none_arrives_at_a_dead_place.Goals as goal

pub returns : goal.returns
returns c = arrival_excluded
