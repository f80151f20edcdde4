use Rattle.rx_script.proofs.OneScript.{one-fault}
use Rattle.rx_script.proofs.laws.one_fault.Goals as goal

pub returns : goal.returns
returns c = one-fault
