use Rattle.rx_ledger.proofs.OwnTold as told
use Rattle.rx_ledger.proofs.laws.may_wait_next.Goals as goal

pub returns : goal.returns
returns c = told.may_wait_next
