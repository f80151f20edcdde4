use Rattle.rx_parts_bounds.proofs.Refusals.{larger_refused}
use Rattle.rx_parts_bounds.proofs.refused.another_event_is_not_legal.Goals as goal

pub returns : goal.returns
returns c = larger_refused
