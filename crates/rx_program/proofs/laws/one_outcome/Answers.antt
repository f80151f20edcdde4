use Rattle.rx_program.proofs.Outcomes.{one-outcome}
use Rattle.rx_program.proofs.laws.one_outcome.Goals as goal

pub returns : goal.returns
returns c = one-outcome c.picked_run_is_one.ensures c.setups_are_proper.ensures c.text_tells_answer.ensures c.one_script.ensures c.answer_is_one.ensures
