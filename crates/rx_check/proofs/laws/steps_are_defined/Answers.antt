use Rattle.rx_check.proofs.Few.{few-names}
use Rattle.rx_check.proofs.Coming.{always-defined}
use Rattle.rx_check.proofs.laws.steps_are_defined.Goals as goal

pub returns : goal.returns
returns c = always-defined c.names_are_numbered.ensures (few-names c.names_are_numbered.ensures)
