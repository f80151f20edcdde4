use Rattle.rx_verdict.proofs.Worked.{worked_counts}
use Rattle.rx_verdict.proofs.event_laws.worked_counts.Goals as goal

pub returns : goal.returns
returns c = worked_counts
