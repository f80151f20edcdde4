use Rattle.rx_text.proofs.OneText.{written}
use Rattle.rx_text.proofs.laws.written_numbers_stand.Goals as goal

pub returns : goal.returns
returns c = written
