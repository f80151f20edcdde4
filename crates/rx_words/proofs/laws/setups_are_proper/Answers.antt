use Rattle.rx_words.proofs.Proper.{setups-are-proper}
use Rattle.rx_words.proofs.laws.setups_are_proper.Goals as goal

pub returns : goal.returns
returns c = setups-are-proper
