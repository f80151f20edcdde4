use Rattle.rx_history_laws.proofs.Masked.{masked-lost}
use Rattle.rx_history_laws.proofs.run_masked_is_lost.Goals as goal

pub returns : goal.returns
returns c = λ code U es js r. masked-lost U.places es r.folds.some r.folds.few r.folds.allowed
