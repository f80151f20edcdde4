use Rattle.rx_script.specs.Inside.Exprs.{expr}
use Rattle.rx_script.specs.Inside.Items as read
use Rattle.rx_script.proofs.Reading.{moved, took-expr, expr-then}
use Rattle.rx_script.proofs.items.if_item.Goals as goal

pub returns-in-Ok-clause-answer : goal.returns-in-Ok-clause-answer
returns-in-Ok-clause-answer c =
    let es = c.expression.new.exprs.items in
    let h = took-expr es c.in_ok-test.field-0 (λ s. s.now) (expr c.args.tokens.now) c.in-Ok.test c.in-Ok.rest c.in-Ok.is c.in_ok-test.ensures.answer in
    moved es c.opens.result (λ s. s.now) _ _
    (expr-then c.args.tokens.now c.in-Ok.rest.now h.0 (λ e. read.opens (read.Open (read.ByIf e))) h.2)
    (c.opens.ensures.answer es (read.Open (read.ByIf h.0)) h.1)
