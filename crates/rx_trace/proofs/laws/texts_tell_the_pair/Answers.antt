use Rattle.rx_trace.proofs.ReadPlaces.{one-pair}
use Rattle.rx_trace.proofs.laws.texts_tell_the_pair.Goals as goal

pub returns : goal.returns
returns c = one-pair
