use Rattle.rx_parts_bounds.proofs.TwoWays.{ways_legal}
use Rattle.rx_parts_bounds.proofs.worked.both_ways_are_legal_alone.Goals as goal

pub returns-clause-legal : goal.returns-clause-legal
returns-clause-legal c = ways_legal
