use Rattle.std.proofs.Common.{◌≡◌, rules}
use Rattle.rx_script.specs.Inside.Readers.{choose}
use Rattle.rx_script.specs.Inside.Items as read
use Rattle.rx_script.proofs.Reading.{moved}
use Rattle.rx_script.proofs.items.statement.Goals as goal

pub returns-in-Some-Key-Async-default-clause-answer : goal.returns-in-Some-Key-Async-default-clause-answer
returns-in-Some-Key-Async-default-clause-answer c =
    let es = c.args.exprs.now.items in
    let picked : choose read.statement c.args.tokens.now ≡ read.opens (read.Open read.ByAsync) c.in-Some-Key-Async-default.rest.now = search rules in
    moved es c.opens.result (λ s. s.now) _ _ picked (c.opens.ensures.answer es (read.Open read.ByAsync) tt)

pub returns-in-Some-Key-Finish-default-clause-answer : goal.returns-in-Some-Key-Finish-default-clause-answer
returns-in-Some-Key-Finish-default-clause-answer c =
    let es = c.args.exprs.now.items in
    let picked : choose read.statement c.args.tokens.now ≡ read.opens (read.Open read.ByFinish) c.in-Some-Key-Finish-default.rest.now = search rules in
    moved es c.opens-in-Some-Key-Finish-default.result (λ s. s.now) _ _ picked (c.opens-in-Some-Key-Finish-default.ensures.answer es (read.Open read.ByFinish) tt)

pub returns-in-Some-Key-Try-default-clause-answer : goal.returns-in-Some-Key-Try-default-clause-answer
returns-in-Some-Key-Try-default-clause-answer c =
    let es = c.args.exprs.now.items in
    let picked : choose read.statement c.args.tokens.now ≡ read.opens (read.Open read.ByTry) c.in-Some-Key-Try-default.rest.now = search rules in
    moved es c.opens-in-Some-Key-Try-default.result (λ s. s.now) _ _ picked (c.opens-in-Some-Key-Try-default.ensures.answer es (read.Open read.ByTry) tt)
