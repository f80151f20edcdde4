use Rattle.rx_objects.proofs.Ending.{objects_open}
use Rattle.rx_objects.proofs.laws.objects_open.Goals as goal

pub returns : goal.returns
returns c = objects_open
