use Rattle.rx_answers.proofs.Heads.{one-pair}
use Rattle.rx_answers.proofs.parts.parts_are_one.Goals as goal

pub returns : goal.returns
returns c = one-pair c.naturals_have_one_text.ensures
