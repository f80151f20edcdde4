use Rattle.rx_parts_bounds.proofs.Refusals.{root_refused}
use Rattle.rx_parts_bounds.proofs.refused.entry_behind_the_root_is_not_legal.Goals as goal

pub returns : goal.returns
returns c = root_refused
