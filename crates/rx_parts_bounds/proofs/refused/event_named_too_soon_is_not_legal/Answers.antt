use Rattle.rx_parts_bounds.proofs.Refusals.{later_refused}
use Rattle.rx_parts_bounds.proofs.refused.event_named_too_soon_is_not_legal.Goals as goal

pub returns : goal.returns
returns c = later_refused
