use Rattle.rx_history_laws.proofs.LawsHold.{no-early}
use Rattle.rx_history_laws.proofs.run_is_not_early.Goals as goal

pub returns : goal.returns
returns c = λ code U es js r. no-early U.places r.folds.few es r.folds.allowed
