use Rattle.rx_parts_bounds.proofs.Refusals.{twice_refused}
use Rattle.rx_parts_bounds.proofs.refused.event_made_twice_is_not_legal.Goals as goal

pub returns : goal.returns
returns c = twice_refused
