use Rattle.rx_worked.proofs.DeathRefusals.{at_orphan_excluded}
use Rattle.rx_worked.proofs.deaths.at_waits_for_orphans.Goals as goal

pub returns : goal.returns
returns c = at_orphan_excluded
