use Rattle.rx_text.proofs.OneText.{naturals}
use Rattle.rx_text.proofs.laws.naturals_have_one_text.Goals as goal

pub returns : goal.returns
returns c = naturals
