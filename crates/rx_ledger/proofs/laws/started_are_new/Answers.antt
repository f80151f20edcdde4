use Rattle.rx_ledger.proofs.Newborn as newborn
use Rattle.rx_ledger.proofs.laws.started_are_new.Goals as goal

pub returns : goal.returns
returns c = newborn.started_are_new
