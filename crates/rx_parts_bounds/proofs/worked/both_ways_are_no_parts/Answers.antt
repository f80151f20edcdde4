use Rattle.rx_parts_bounds.proofs.TwoWays.{ways_refused}
use Rattle.rx_parts_bounds.proofs.worked.both_ways_are_no_parts.Goals as goal

pub returns : goal.returns
returns c = ways_refused
