use Rattle.rx_counts.proofs.Beginning.{room_for}
use Rattle.rx_counts.proofs.ledger.CountLedger.open_for.Goals as goal

pub returns : goal.returns
returns c = room_for c.args.places c.args.joins c.open_wide.result c.open_wide.ensures
