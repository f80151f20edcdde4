use Rattle.rx_history_laws.proofs.LawsHold.{wide-loss-exact}
use Rattle.rx_history_laws.proofs.wide_losses_are_exact.Goals as goal

pub returns : goal.returns
returns c = λ limit places es small a. wide-loss-exact limit places small es a
