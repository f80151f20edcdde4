use Rattle.std.proofs.Common.{ap, ◌∙◌}
use Rattle.rx_rank.specs.Numbers.{inserted}
use Rattle.rx_machine.proofs.Readying.{inserted_none}
use Rattle.rx_machine.proofs.machine.root_ready.Goals as goal

pub returns : goal.returns
returns c = c.insert.ensures.members ∙ (ap (inserted 0) (c.in_ok-room.ensures.members ∙ ap (λ r. r.members) c.open-ready.ensures) ∙ inserted_none 0)
