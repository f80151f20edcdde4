use Rattle.rx_verdict.proofs.Marking.{entries_to_come}
use Rattle.rx_verdict.proofs.entries_come.Goals as goal

pub returns : goal.returns
returns c = entries_to_come
