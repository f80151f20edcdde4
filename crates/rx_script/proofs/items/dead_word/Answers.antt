use Rattle.std.proofs.Common.{◌≡◌, refl, true, false, rules}
use Rattle.rx_script.specs.Inside.Readers.{choose}
use Rattle.rx_script.specs.Inside.Items as read
use Rattle.rx_script.proofs.Reading.{moved}
use Rattle.rx_script.proofs.items.dead_word.Goals as goal

pub returns-in-Some-Mark-OpenBrace-default-clause-answer : goal.returns-in-Some-Mark-OpenBrace-default-clause-answer
returns-in-Some-Mark-OpenBrace-default-clause-answer c es = (read.Catch false, refl, search rules)

pub returns-in-Some-Key-Dead-default-clause-answer : goal.returns-in-Some-Key-Dead-default-clause-answer
returns-in-Some-Key-Dead-default-clause-answer c es =
    let picked : choose read.dead_word c.args.tokens.now ≡ read.opens (read.Catch true) c.in-Some-Key-Dead-default.rest.now = search rules in
    moved es c.opens.result (λ s. s.now) _ _ picked (c.opens.ensures.answer es (read.Catch true) refl)
