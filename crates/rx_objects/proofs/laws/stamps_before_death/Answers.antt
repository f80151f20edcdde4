use Rattle.rx_objects.proofs.Ending.{stamps_before_death}
use Rattle.rx_objects.proofs.laws.stamps_before_death.Goals as goal

pub returns : goal.returns
returns c = stamps_before_death
