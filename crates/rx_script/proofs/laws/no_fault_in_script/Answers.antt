use Rattle.rx_script.proofs.OneScript.{no-fault}
use Rattle.rx_script.proofs.laws.no_fault_in_script.Goals as goal

pub returns : goal.returns
returns c = λ bytes s n a. no-fault bytes a.0 s n a.1
