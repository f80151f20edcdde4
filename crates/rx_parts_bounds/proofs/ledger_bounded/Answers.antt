use Rattle.rx_parts_bounds.proofs.Entries.{ledger_bounded}
use Rattle.rx_parts_bounds.proofs.ledger_bounded.Goals as goal

pub returns : goal.returns
returns c = ledger_bounded
