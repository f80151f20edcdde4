use Rattle.rx_history_laws.proofs.ToldOnce.{told-once}
use Rattle.rx_history_laws.proofs.each_is_told_once.Goals as goal

pub returns : goal.returns
returns c = told-once
