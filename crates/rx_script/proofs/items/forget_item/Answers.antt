use Rattle.std.proofs.Common.{refl}
use Rattle.rx_rules.proofs.Common.{Forget}
use Rattle.rx_script.specs.Inside.Items as read
use Rattle.rx_script.proofs.Reading.{moved}
use Rattle.rx_script.proofs.items.forget_item.Goals as goal

pub returns-in-Ok-clause-answer : goal.returns-in-Ok-clause-answer
returns-in-Ok-clause-answer c es =
    moved es c.ends.result (λ s. s.now) _ _
    (c.in-Ok.ensures.answer (λ t. read.ends (read.Whole (Forget t))))
    (c.ends.ensures.answer es (read.Whole (Forget c.in-Ok.target.0)) refl)
