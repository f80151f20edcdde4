use Rattle.rx_parts_bounds.proofs.Refusals.{left_out_refused}
use Rattle.rx_parts_bounds.proofs.refused.joined_place_left_out_is_no_parts.Goals as goal

pub returns : goal.returns
returns c = left_out_refused
