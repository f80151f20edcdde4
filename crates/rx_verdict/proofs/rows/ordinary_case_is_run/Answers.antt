use Rattle.rx_verdict.proofs.WorkedPairs.{ordinary_case_is_run}
use Rattle.rx_verdict.proofs.rows.ordinary_case_is_run.Goals as goal

pub returns : goal.returns
returns c = ordinary_case_is_run
