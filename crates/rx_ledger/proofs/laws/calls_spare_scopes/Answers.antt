use Rattle.rx_ledger.proofs.Called as called
use Rattle.rx_ledger.proofs.laws.calls_spare_scopes.Goals as goal

pub returns : goal.returns
returns c = called.calls_spare_scopes
