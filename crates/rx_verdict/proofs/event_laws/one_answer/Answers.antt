use Rattle.rx_verdict.proofs.Answered.{one_answer}
use Rattle.rx_verdict.proofs.event_laws.one_answer.Goals as goal

pub returns : goal.returns
returns c = one_answer
