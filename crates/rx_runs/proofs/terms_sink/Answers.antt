use Rattle.rx_runs.proofs.Sinking.{sinks}
use Rattle.rx_runs.proofs.terms_sink.Goals as goal

pub returns : goal.returns
returns c = sinks
