use Rattle.rx_parts_bounds.proofs.FullRows.{full_parts}
use Rattle.rx_parts_bounds.proofs.worked.full_heap_is_parts.Goals as goal

pub returns : goal.returns
returns c = full_parts
