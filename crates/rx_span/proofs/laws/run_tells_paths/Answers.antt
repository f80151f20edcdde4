use Rattle.rx_span.proofs.Told.{run-tells-paths}
use Rattle.rx_span.proofs.laws.run_tells_paths.Goals as goal

pub returns : goal.returns
returns c = run-tells-paths
