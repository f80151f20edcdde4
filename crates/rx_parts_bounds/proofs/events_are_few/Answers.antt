use Rattle.rx_parts_bounds.proofs.Few.{events_are_few}
use Rattle.rx_parts_bounds.proofs.events_are_few.Goals as goal

pub returns : goal.returns
returns c = events_are_few
