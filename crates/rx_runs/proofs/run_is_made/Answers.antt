use Rattle.rx_runs.proofs.Making.{run_made}
use Rattle.rx_runs.proofs.run_is_made.Goals as goal

pub returns : goal.returns
returns c = run_made
