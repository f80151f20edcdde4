use Rattle.rx_verdict.proofs.WorkedPairs.{no_entries_are_no_end}
use Rattle.rx_verdict.proofs.rows.no_entries_are_no_end.Goals as goal

pub returns : goal.returns
returns c = no_entries_are_no_end
