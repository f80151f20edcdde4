use Rattle.rx_history_laws.proofs.Masked.{masked-lost}
use Rattle.rx_history_laws.proofs.masked_is_lost.Goals as goal

pub returns : goal.returns
returns c = masked-lost
