use Rattle.rx_verdict.proofs.MarkedEvents.{marks_are_added}
use Rattle.rx_verdict.proofs.event_laws.marks_are_added.Goals as goal

pub returns : goal.returns
returns c = marks_are_added
