use Rattle.rx_parts_bounds.proofs.Refusals.{on_the_way_refused}
use Rattle.rx_parts_bounds.proofs.refused.event_before_the_arrival_is_not_legal.Goals as goal

pub returns : goal.returns
returns c = on_the_way_refused
