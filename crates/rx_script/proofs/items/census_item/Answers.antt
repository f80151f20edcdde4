use Rattle.std.proofs.Common.{refl}
use Rattle.rx_rules.proofs.Common.{Census}
use Rattle.rx_script.specs.Inside.Items as read
use Rattle.rx_script.proofs.Reading.{moved}
use Rattle.rx_script.proofs.items.census_item.Goals as goal

pub returns-in-Ok-clause-answer : goal.returns-in-Ok-clause-answer
returns-in-Ok-clause-answer c es =
    moved es c.ends.result (λ s. s.now) _ _
    (c.in-Ok.ensures.answer (λ n. read.ends (read.Whole (Census n))))
    (c.ends.ensures.answer es (read.Whole (Census c.in-Ok.name.0)) refl)
