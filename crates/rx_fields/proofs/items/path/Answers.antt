use Rattle.std.proofs.Common.{sym, ◌∙◌, arith}
use Rattle.rx_fields.proofs.Joining.{number-more, number-none, last-none, last-long, last-ok}
use Rattle.rx_fields.proofs.items.path.Goals as goal

pub returns-in_default-natural : goal.returns-in_default-natural
returns-in_default-natural c =
    number-none c.numbers.numbers c.numbers.rest.now c.in-Some.front.now c.in-Some.tail.now c.args.word.now c.numbers.invariant c.in-Some.ensures.some.0 c.in-Some.ensures.some.1
    (sym c.natural.ensures ∙ c.in_default-natural.is)

pub numbers-preserved : goal.numbers-preserved
numbers-preserved c =
    number-more c.numbers.numbers c.push.new.self c.numbers.rest.now c.in-Some.front.now c.in-Some.tail.now c.args.word.now c.in-Some-natural.n c.numbers.invariant c.in-Some.ensures.some.0 c.in-Some.ensures.some.1
    (sym c.natural.ensures ∙ c.in-Some-natural.is) c.in_ok-push.ensures.ok

pub returns-in_default-natural-2 : goal.returns-in_default-natural-2
returns-in_default-natural-2 c =
    last-none c.numbers.numbers c.numbers.rest.now c.args.word.now c.numbers.invariant c.in_default.ensures.none (sym c.natural-2.ensures ∙ c.in_default-natural-2.is)

pub returns-then-len-gt65 : goal.returns-then-len-gt65
returns-then-len-gt65 c =
    last-long c.numbers.numbers c.push-2.new.self c.numbers.rest.now c.args.word.now c.in-Some-natural-2.n c.len.result c.numbers.invariant c.in_default.ensures.none
    (sym c.natural-2.ensures ∙ c.in-Some-natural-2.is) c.in_ok-push-2.ensures.ok (omega (arith, c.len.ensures)) c.if-len-gt65.true

pub returns : goal.returns
returns c =
    last-ok c.numbers.numbers c.push-2.new.self c.numbers.rest.now c.args.word.now c.in-Some-natural-2.n c.len.result c.numbers.invariant c.in_default.ensures.none
    (sym c.natural-2.ensures ∙ c.in-Some-natural-2.is) c.in_ok-push-2.ensures.ok (omega (arith, c.len.ensures)) c.if-len-gt65.false
