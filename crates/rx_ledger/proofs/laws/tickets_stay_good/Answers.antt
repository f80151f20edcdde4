use Rattle.rx_ledger.proofs.StaysGood as staying
use Rattle.rx_ledger.proofs.laws.tickets_stay_good.Goals as goal

pub returns : goal.returns
returns c = staying.tickets_stay_good
