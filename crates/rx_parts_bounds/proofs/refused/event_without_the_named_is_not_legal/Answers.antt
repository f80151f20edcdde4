use Rattle.rx_parts_bounds.proofs.Refusals.{without_refused}
use Rattle.rx_parts_bounds.proofs.refused.event_without_the_named_is_not_legal.Goals as goal

pub returns : goal.returns
returns c = without_refused
