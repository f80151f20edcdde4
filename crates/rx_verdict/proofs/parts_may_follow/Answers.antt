use Rattle.rx_verdict.proofs.Seating.{part_follows}
use Rattle.rx_verdict.proofs.parts_may_follow.Goals as goal

pub returns : goal.returns
returns c = part_follows
