use Rattle.rx_verdict.proofs.Judged.{made_marks_tell}
use Rattle.rx_verdict.proofs.event_laws.made_marks_tell.Goals as goal

pub returns : goal.returns
returns c = made_marks_tell
