use Rattle.rx_counts.proofs.Counts.{counts_stand}
use Rattle.rx_counts.proofs.ledger.counts_stand.Goals as goal

pub returns : goal.returns
returns c = counts_stand
