use Rattle.rx_runs.proofs.Keeping.{turn_keeps}
use Rattle.rx_runs.proofs.turns_keep_sound.Goals as goal

pub returns : goal.returns
returns c = turn_keeps
