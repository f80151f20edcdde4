use Rattle.std.proofs.Common.{refl}
use Rattle.rx_script.specs.Inside.Items as read
use Rattle.rx_script.proofs.Reading.{moved}
use Rattle.rx_script.proofs.items.repeat_item.Goals as goal

pub returns-in-Ok-clause-answer : goal.returns-in-Ok-clause-answer
returns-in-Ok-clause-answer c es =
    moved es c.opens.result (λ s. s.now) _ _
    (c.in-Ok.ensures.answer (λ n. read.opens (read.Open (read.ByRepeat n))))
    (c.opens.ensures.answer es (read.Open (read.ByRepeat c.in-Ok.times)) refl)
