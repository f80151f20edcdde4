use Rattle.rx_parts_bounds.proofs.Refusals.{forgetful_refused}
use Rattle.rx_parts_bounds.proofs.refused.forgetful_place_is_not_legal.Goals as goal

pub returns : goal.returns
returns c = forgetful_refused
