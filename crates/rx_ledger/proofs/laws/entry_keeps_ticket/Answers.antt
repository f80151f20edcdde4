use Rattle.rx_ledger.proofs.StaysGood as staying
use Rattle.rx_ledger.proofs.laws.entry_keeps_ticket.Goals as goal

pub returns : goal.returns
returns c = staying.entry_keeps_ticket
