use Rattle.rx_script.specs.Inside.Readers.{done}
use Rattle.rx_script.proofs.items.ends.Goals as goal

pub returns-in-Ok-clause-answer : goal.returns-in-Ok-clause-answer
returns-in-Ok-clause-answer c es x h = (x, h, c.in-Ok.ensures.answer (done x))

pub returns-in-Err-clause-answer : goal.returns-in-Err-clause-answer
returns-in-Err-clause-answer c es x h = c.in-Err.ensures.answer (done x)
