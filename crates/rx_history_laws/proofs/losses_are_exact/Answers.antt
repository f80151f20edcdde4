use Rattle.rx_history_laws.proofs.LawsHold.{loss-exact}
use Rattle.rx_history_laws.proofs.losses_are_exact.Goals as goal

pub returns : goal.returns
returns c = λ places es small a. loss-exact places small es a
