use Rattle.rx_text.proofs.OneText.{paths}
use Rattle.rx_text.proofs.laws.paths_have_one_text.Goals as goal

pub returns : goal.returns
returns c = paths
