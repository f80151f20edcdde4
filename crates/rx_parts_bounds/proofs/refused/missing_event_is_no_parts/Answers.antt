use Rattle.rx_parts_bounds.proofs.Refusals.{missing_refused}
use Rattle.rx_parts_bounds.proofs.refused.missing_event_is_no_parts.Goals as goal

pub returns : goal.returns
returns c = missing_refused
