use Rattle.std.proofs.Common.{refl}
use Rattle.rx_machine.proofs.beginning.rouse.Goals as goal

pub returns : goal.returns
returns c = record { who = refl; waits = refl; batch = c.open-batch.ensures; work = c.in_ok-control.ensures }
