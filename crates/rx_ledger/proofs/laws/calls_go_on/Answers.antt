use Rattle.rx_ledger.proofs.Called as called
use Rattle.rx_ledger.proofs.laws.calls_go_on.Goals as goal

pub returns : goal.returns
returns c = called.calls_go_on
