use Rattle.std.proofs.Common.{◌∙◌}
use Rattle.rx_script.specs.Inside.Readers.{choose}
use Rattle.rx_script.specs.Inside.Items as read
use Rattle.rx_script.proofs.items.assigned.Goals as goal

pub returns-in-Ok-equals-clause-answer : goal.returns-in-Ok-equals-clause-answer
returns-in-Ok-equals-clause-answer c f =
    c.in-Ok.ensures.answer (λ n. choose (read.equals_then (f n))) ∙ c.in-Ok-equals.ensures.answer (f c.in-Ok.name.0)

pub returns-in-Err-equals-clause-answer : goal.returns-in-Err-equals-clause-answer
returns-in-Err-equals-clause-answer c f =
    c.in-Ok.ensures.answer (λ n. choose (read.equals_then (f n))) ∙ c.in-Err-equals.ensures.answer (f c.in-Ok.name.0)
