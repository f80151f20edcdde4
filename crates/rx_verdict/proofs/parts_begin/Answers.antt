use Rattle.rx_verdict.proofs.Parting.{part_begins}
use Rattle.rx_verdict.proofs.parts_begin.Goals as goal

pub returns : goal.returns
returns c = part_begins
