use Rattle.rx_ledger.proofs.Called as called
use Rattle.rx_ledger.proofs.laws.calls_own.Goals as goal

pub returns : goal.returns
returns c = called.calls_own
