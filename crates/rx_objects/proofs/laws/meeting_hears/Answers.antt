use Rattle.rx_objects.proofs.Ending.{meeting_hears}
use Rattle.rx_objects.proofs.laws.meeting_hears.Goals as goal

pub returns : goal.returns
returns c = meeting_hears
