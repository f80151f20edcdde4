use Rattle.rx_verdict.proofs.Judged.{events_decide}
use Rattle.rx_verdict.proofs.event_laws.events_decide.Goals as goal

pub returns : goal.returns
returns c = events_decide
