use Rattle.rx_history_laws.proofs.LawsHold.{loss-exact}
use Rattle.rx_history_laws.proofs.run_is_exact.Goals as goal

pub returns : goal.returns
returns c = λ code U es js r. loss-exact U.places r.folds.few es r.folds.allowed
