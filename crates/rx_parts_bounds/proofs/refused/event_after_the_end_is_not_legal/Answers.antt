use Rattle.rx_parts_bounds.proofs.Refusals.{ended_refused}
use Rattle.rx_parts_bounds.proofs.refused.event_after_the_end_is_not_legal.Goals as goal

pub returns : goal.returns
returns c = ended_refused
