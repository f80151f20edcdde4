use Rattle.rx_verdict.proofs.WorkedPairs.{new_case_is_run}
use Rattle.rx_verdict.proofs.rows.new_case_is_run.Goals as goal

pub returns : goal.returns
returns c = new_case_is_run
