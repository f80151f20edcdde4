use Rattle.rx_objects.proofs.Fitting.{host_may_ask}
use Rattle.rx_objects.proofs.laws.host_may_ask.Goals as goal

pub returns : goal.returns
returns c = host_may_ask
