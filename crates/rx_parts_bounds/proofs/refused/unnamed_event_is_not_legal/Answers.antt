use Rattle.rx_parts_bounds.proofs.Refusals.{unnamed_refused}
use Rattle.rx_parts_bounds.proofs.refused.unnamed_event_is_not_legal.Goals as goal

pub returns : goal.returns
returns c = unnamed_refused
