use Rattle.std.proofs.Common.{◌≡◌, rules}
use Rattle.rx_script.specs.Inside.Readers.{choose}
use Rattle.rx_script.specs.Inside.Items as read
use Rattle.rx_script.proofs.Reading.{moved}
use Rattle.rx_script.proofs.items.at_body.Goals as goal

pub returns-in-Some-Key-Async-default-clause-answer : goal.returns-in-Some-Key-Async-default-clause-answer
returns-in-Some-Key-Async-default-clause-answer c es e h =
    let picked : choose (read.at_body e) c.args.tokens.now ≡ read.opens (read.Open (read.ByAtAsync e)) c.in-Some-Key-Async-default.rest.now = search rules in
    moved es c.opens.result (λ s. s.now) _ _ picked (c.opens.ensures.answer es (read.Open (read.ByAtAsync e)) h)

pub returns-in-Some-Mark-OpenBrace-default-clause-answer : goal.returns-in-Some-Mark-OpenBrace-default-clause-answer
returns-in-Some-Mark-OpenBrace-default-clause-answer c es e h = (read.Open (read.ByAt e), h, search rules)
