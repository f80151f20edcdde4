use Rattle.rx_syntax.proofs.Mentioned.{are-numbered}
use Rattle.rx_syntax.proofs.laws.names_are_numbered.Goals as goal

pub returns : goal.returns
returns c = are-numbered
