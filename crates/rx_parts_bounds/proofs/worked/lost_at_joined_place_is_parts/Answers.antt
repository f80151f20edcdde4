use Rattle.rx_parts_bounds.proofs.ChainRows.{joined_parts}
use Rattle.rx_parts_bounds.proofs.worked.lost_at_joined_place_is_parts.Goals as goal

pub returns : goal.returns
returns c = joined_parts
