use Rattle.std.proofs.Common.{◌∙◌}
use Rattle.rx_script.specs.Inside.Readers.{choose}
use Rattle.rx_script.specs.Inside.Exprs.{expr}
use Rattle.rx_script.specs.Inside.Items as read
use Rattle.rx_script.proofs.Reading.{took-expr, expr-then}
use Rattle.rx_script.proofs.items.value.Goals as goal

pub returns-in-Ok-semicolon-clause-answer : goal.returns-in-Ok-semicolon-clause-answer
returns-in-Ok-semicolon-clause-answer c =
    let h = took-expr c.expression.new.exprs.items c.in_ok-value.field-0 (λ s. s.now) (expr c.args.tokens.now) c.in-Ok.value c.in-Ok.rest c.in-Ok.is c.in_ok-value.ensures.answer in
    (h.0, h.1, λ f. expr-then c.args.tokens.now c.in-Ok.rest.now h.0 (λ e. choose (read.semicolon (f e))) h.2 ∙ c.in-Ok-semicolon.ensures.answer (f h.0))

pub returns-in-Err-semicolon-clause-answer : goal.returns-in-Err-semicolon-clause-answer
returns-in-Err-semicolon-clause-answer c f =
    let h = took-expr c.expression.new.exprs.items c.in_ok-value.field-0 (λ s. s.now) (expr c.args.tokens.now) c.in-Ok.value c.in-Ok.rest c.in-Ok.is c.in_ok-value.ensures.answer in
    expr-then c.args.tokens.now c.in-Ok.rest.now h.0 (λ e. choose (read.semicolon (f e))) h.2 ∙ c.in-Err-semicolon.ensures.answer (f h.0)
