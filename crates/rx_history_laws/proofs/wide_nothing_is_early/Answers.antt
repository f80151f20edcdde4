use Rattle.rx_history_laws.proofs.LawsHold.{wide-no-early}
use Rattle.rx_history_laws.proofs.wide_nothing_is_early.Goals as goal

pub returns : goal.returns
returns c = λ limit places es small a. wide-no-early limit places small es a
