use Rattle.rx_runs.proofs.Fitting.{starts_fit}
use Rattle.rx_runs.proofs.opening_terms_fit.Goals as goal

pub returns : goal.returns
returns c = starts_fit
