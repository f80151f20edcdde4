use Rattle.rx_verdict.proofs.MarkedEvents.{marks_begin_empty}
use Rattle.rx_verdict.proofs.event_laws.marks_begin_empty.Goals as goal

pub returns : goal.returns
returns c = marks_begin_empty
