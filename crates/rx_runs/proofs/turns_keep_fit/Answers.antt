use Rattle.rx_runs.proofs.Fitting.{fits_keeps}
use Rattle.rx_runs.proofs.turns_keep_fit.Goals as goal

pub returns : goal.returns
returns c = fits_keeps
