use Rattle.rx_answers.proofs.Judged.{text-tells}
use Rattle.rx_answers.proofs.laws.text_tells_answer.Goals as goal

pub returns : goal.returns
returns c = text-tells
