use Rattle.rx_parts_bounds.proofs.Parting.{run-has-parts}
use Rattle.rx_parts_bounds.proofs.run_has_parts.Goals as goal

pub returns : goal.returns
returns c = run-has-parts
