use Rattle.rx_worked.proofs.DeathRefusals.{orphan_excluded}
use Rattle.rx_worked.proofs.deaths.orphans_are_waited_for.Goals as goal

pub returns : goal.returns
returns c = orphan_excluded
