use Rattle.rx_ledger.proofs.Called as called
use Rattle.rx_ledger.proofs.laws.calls_keep_others.Goals as goal

pub returns : goal.returns
returns c = called.calls_keep_others
