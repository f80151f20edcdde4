use Rattle.rx_objects.proofs.Fitting.{place_op_fits}
use Rattle.rx_objects.proofs.laws.place_op_fits.Goals as goal

pub returns : goal.returns
returns c = place_op_fits
