use Rattle.rx_ledger.proofs.TermAsks as asking
use Rattle.rx_ledger.proofs.laws.law_of_asking.Goals as goal

pub returns : goal.returns
returns c = asking.law_of_asking
