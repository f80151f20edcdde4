use Rattle.rx_parts_bounds.proofs.Refusals.{another_refused}
use Rattle.rx_parts_bounds.proofs.refused.event_by_another_is_not_legal.Goals as goal

pub returns : goal.returns
returns c = another_refused
