use Rattle.rx_parts_bounds.proofs.Refusals.{unheld_refused}
use Rattle.rx_parts_bounds.proofs.refused.entry_by_another_is_not_legal.Goals as goal

pub returns : goal.returns
returns c = unheld_refused
