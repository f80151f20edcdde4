use Rattle.rx_worked.proofs.DeathRefusals.{stamp_is_between}
use Rattle.rx_worked.proofs.deaths.stamp_of_another_entry_is_no_run.Goals as goal

pub returns : goal.returns
returns c = stamp_is_between
