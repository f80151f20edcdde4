use Rattle.rx_answers.proofs.Judged.{no-case-fault}
use Rattle.rx_answers.proofs.laws.cases_have_no_fault.Goals as goal

pub returns : goal.returns
returns c = no-case-fault c.parts_are_one.ensures c.programs_have_no_fault.ensures c.texts_have_no_bad_line.ensures
