use Rattle.rx_objects.proofs.Ending.{places_end}
use Rattle.rx_objects.proofs.laws.places_end.Goals as goal

pub returns : goal.returns
returns c = places_end
