use Rattle.rx_parts_bounds.proofs.Refusals.{falling_refused}
use Rattle.rx_parts_bounds.proofs.refused.falling_stamps_are_not_legal.Goals as goal

pub returns : goal.returns
returns c = falling_refused
