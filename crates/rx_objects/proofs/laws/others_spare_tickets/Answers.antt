use Rattle.rx_objects.proofs.Fitting.{others_spare}
use Rattle.rx_objects.proofs.laws.others_spare_tickets.Goals as goal

pub returns : goal.returns
returns c = others_spare
