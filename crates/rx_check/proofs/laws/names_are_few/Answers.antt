use Rattle.rx_check.proofs.Few.{few-names}
use Rattle.rx_check.proofs.laws.names_are_few.Goals as goal

pub returns : goal.returns
returns c = few-names c.names_are_numbered.ensures
