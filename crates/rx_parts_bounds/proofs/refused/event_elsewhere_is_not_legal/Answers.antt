use Rattle.rx_parts_bounds.proofs.Refusals.{elsewhere_refused}
use Rattle.rx_parts_bounds.proofs.refused.event_elsewhere_is_not_legal.Goals as goal

pub returns : goal.returns
returns c = elsewhere_refused
