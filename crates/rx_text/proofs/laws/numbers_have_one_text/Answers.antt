use Rattle.rx_text.proofs.OneText.{numbers}
use Rattle.rx_text.proofs.laws.numbers_have_one_text.Goals as goal

pub returns : goal.returns
returns c = numbers
