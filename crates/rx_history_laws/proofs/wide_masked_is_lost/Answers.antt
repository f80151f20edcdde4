use Rattle.rx_history_laws.proofs.Masked.{wide-masked-lost}
use Rattle.rx_history_laws.proofs.wide_masked_is_lost.Goals as goal

pub returns : goal.returns
returns c = wide-masked-lost
