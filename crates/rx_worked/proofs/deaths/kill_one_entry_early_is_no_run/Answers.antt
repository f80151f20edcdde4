use Rattle.rx_worked.proofs.DeathRefusals.{early_kill_excluded}
use Rattle.rx_worked.proofs.deaths.kill_one_entry_early_is_no_run.Goals as goal

pub returns : goal.returns
returns c = early_kill_excluded
