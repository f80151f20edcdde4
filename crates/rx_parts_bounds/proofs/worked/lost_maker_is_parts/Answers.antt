use Rattle.rx_parts_bounds.proofs.MakerRows.{maker_parts}
use Rattle.rx_parts_bounds.proofs.worked.lost_maker_is_parts.Goals as goal

pub returns : goal.returns
returns c = maker_parts
