use Rattle.rx_script.proofs.OneScript.{scripts-are-spelled}
use Rattle.rx_script.proofs.laws.scripts_are_spelled.Goals as goal

pub returns : goal.returns
returns c = scripts-are-spelled
