use Rattle.rx_objects.proofs.Ending.{meeting_shows}
use Rattle.rx_objects.proofs.laws.meeting_shows.Goals as goal

pub returns : goal.returns
returns c = meeting_shows
