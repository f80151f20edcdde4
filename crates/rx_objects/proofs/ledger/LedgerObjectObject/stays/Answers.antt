use Rattle.rx_objects.proofs.Staying.{ledger_stays}
use Rattle.rx_objects.proofs.ledger.LedgerObjectObject.stays.Goals as goal

pub returns : goal.returns
returns c = ledger_stays
