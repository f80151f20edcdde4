use Rattle.rx_answers.proofs.Judged.{one-answer}
use Rattle.rx_answers.proofs.laws.answer_is_one.Goals as goal

pub returns : goal.returns
returns c = one-answer c.parts_are_one.ensures c.one_script.ensures c.texts_tell_the_pair.ensures c.verdict_is_one.ensures c.one_span.ensures
