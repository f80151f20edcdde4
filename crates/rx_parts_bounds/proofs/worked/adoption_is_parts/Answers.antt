use Rattle.rx_parts_bounds.proofs.ChainRows.{adoption_parts}
use Rattle.rx_parts_bounds.proofs.worked.adoption_is_parts.Goals as goal

pub returns : goal.returns
returns c = adoption_parts
