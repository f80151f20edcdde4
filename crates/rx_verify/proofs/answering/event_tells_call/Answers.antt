use Rattle.rx_verify.proofs.Telling.{answers_tells}
use Rattle.rx_verify.proofs.answering.event_tells_call.Goals as goal

pub returns : goal.returns
returns c = answers_tells
