use Rattle.rx_parts_bounds.proofs.Refusals.{ahead_refused}
use Rattle.rx_parts_bounds.proofs.refused.place_ahead_of_the_ledger_is_no_parts.Goals as goal

pub returns : goal.returns
returns c = ahead_refused
