use Rattle.rx_parts_bounds.proofs.Refusals.{early_refused}
use Rattle.rx_parts_bounds.proofs.refused.early_stamp_is_not_legal.Goals as goal

pub returns : goal.returns
returns c = early_refused
