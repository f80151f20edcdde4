use Rattle.rx_objects.proofs.Fitting.{ledger_op_fits}
use Rattle.rx_objects.proofs.laws.ledger_op_fits.Goals as goal

pub returns : goal.returns
returns c = ledger_op_fits
