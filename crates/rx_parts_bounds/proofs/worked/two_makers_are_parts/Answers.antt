use Rattle.rx_parts_bounds.proofs.MakersRows.{makers_parts}
use Rattle.rx_parts_bounds.proofs.worked.two_makers_are_parts.Goals as goal

pub returns : goal.returns
returns c = makers_parts
