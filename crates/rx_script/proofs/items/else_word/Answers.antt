use Rattle.std.proofs.Common.{◌≡◌, rules}
use Rattle.rx_script.specs.Inside.Readers.{choose}
use Rattle.rx_script.specs.Inside.Items as read
use Rattle.rx_script.proofs.Reading.{moved}
use Rattle.rx_script.proofs.items.else_word.Goals as goal

pub returns-in-Some-Key-Else-default-clause-answer : goal.returns-in-Some-Key-Else-default-clause-answer
returns-in-Some-Key-Else-default-clause-answer c es =
    let picked : choose read.else_word c.args.tokens.now ≡ read.opens read.Else c.in-Some-Key-Else-default.rest.now = search rules in
    moved es c.opens.result (λ s. s.now) _ _ picked (c.opens.ensures.answer es read.Else tt)
