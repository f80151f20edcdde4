use Rattle.rx_tree_laws.proofs.Histories.{wide_dead_as_told}
use Rattle.rx_tree_laws.proofs.wide_dead_are_as_told.Goals as goal

pub returns : goal.returns
returns c = wide_dead_as_told
