use Rattle.rx_ledger.proofs.OwnTold as told
use Rattle.rx_ledger.proofs.laws.numbers_are_left.Goals as goal

pub returns : goal.returns
returns c = told.numbers_are_left
