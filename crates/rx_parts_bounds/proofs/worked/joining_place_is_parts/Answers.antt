use Rattle.rx_parts_bounds.proofs.ChainRows.{joining_parts}
use Rattle.rx_parts_bounds.proofs.worked.joining_place_is_parts.Goals as goal

pub returns : goal.returns
returns c = joining_parts
