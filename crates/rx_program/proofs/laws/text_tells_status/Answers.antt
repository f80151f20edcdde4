use Rattle.rx_program.proofs.Outcomes.{text-tells-status}
use Rattle.rx_program.proofs.laws.text_tells_status.Goals as goal

pub returns : goal.returns
returns c = text-tells-status c.picked_run_is_one.ensures c.setups_are_proper.ensures c.text_tells_answer.ensures
