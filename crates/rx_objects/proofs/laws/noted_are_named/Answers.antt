use Rattle.rx_objects.proofs.Named.{noted_are_named}
use Rattle.rx_objects.proofs.laws.noted_are_named.Goals as goal

pub returns : goal.returns
returns c = noted_are_named
