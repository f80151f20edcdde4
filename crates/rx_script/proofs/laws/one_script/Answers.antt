use Rattle.rx_script.proofs.OneScript.{one-script}
use Rattle.rx_script.proofs.laws.one_script.Goals as goal

pub returns : goal.returns
returns c = one-script
