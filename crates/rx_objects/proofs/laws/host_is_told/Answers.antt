use Rattle.rx_objects.proofs.Host.{host_is_told}
use Rattle.rx_objects.proofs.laws.host_is_told.Goals as goal

pub returns : goal.returns
returns c = host_is_told
