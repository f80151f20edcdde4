use Rattle.rx_parts_bounds.proofs.Events.{events_bounded}
use Rattle.rx_parts_bounds.proofs.events_bounded.Goals as goal

pub returns : goal.returns
returns c = events_bounded
