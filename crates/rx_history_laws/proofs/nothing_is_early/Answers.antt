use Rattle.rx_history_laws.proofs.LawsHold.{no-early}
use Rattle.rx_history_laws.proofs.nothing_is_early.Goals as goal

pub returns : goal.returns
returns c = λ places es small a. no-early places small es a
