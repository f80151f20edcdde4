use Rattle.rx_ledger.proofs.OwnTold as told
use Rattle.rx_ledger.proofs.laws.owned_as_told.Goals as goal

pub returns : goal.returns
returns c = told.owned_as_told
