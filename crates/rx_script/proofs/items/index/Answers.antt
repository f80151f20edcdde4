use Rattle.std.proofs.Common.{◌∙◌}
use Rattle.rx_rules.proofs.Common.{Expr as Tree}
use Rattle.rx_script.specs.Inside.Readers.{Reader, then, choose}
use Rattle.rx_script.specs.Inside.Exprs.{expr}
use Rattle.rx_script.specs.Inside.Items as read
use Rattle.rx_script.proofs.Reading.{took-expr, missed-expr, expr-then, expr-stops}
use Rattle.rx_script.proofs.items.index.Goals as goal

-- what follows the expression
abbrev ended : (Tree → Reader read.Item) → Tree → Reader read.Item
ended f e = choose (read.end_square (f e))

pub returns-in-Ok-end_square-clause-answer : goal.returns-in-Ok-end_square-clause-answer
returns-in-Ok-end_square-clause-answer c =
    let h = took-expr c.expression.new.exprs.items c.in_ok-index-in-Ok.field-0 (λ s. s.now) (expr c.in-Ok.rest.now) c.in-Ok-2.index c.in-Ok-2.rest c.in-Ok-2.is c.in_ok-index-in-Ok.ensures.answer in (
      h.0,
      h.1,
      λ f. c.in-Ok.ensures.answer (then expr (ended f)) ∙ expr-then c.in-Ok.rest.now c.in-Ok-2.rest.now h.0 (ended f) h.2 ∙ c.in-Ok-end_square.ensures.answer (f h.0),
    )

pub returns-in-Err-end_square-clause-answer : goal.returns-in-Err-end_square-clause-answer
returns-in-Err-end_square-clause-answer c f =
    let h = took-expr c.expression.new.exprs.items c.in_ok-index-in-Ok.field-0 (λ s. s.now) (expr c.in-Ok.rest.now) c.in-Ok-2.index c.in-Ok-2.rest c.in-Ok-2.is c.in_ok-index-in-Ok.ensures.answer in
    c.in-Ok.ensures.answer (then expr (ended f)) ∙ expr-then c.in-Ok.rest.now c.in-Ok-2.rest.now h.0 (ended f) h.2 ∙ c.in-Err-end_square.ensures.answer (f h.0)

pub returns-in-Err-2-clause-answer : goal.returns-in-Err-2-clause-answer
returns-in-Err-2-clause-answer c f =
    let h = missed-expr c.expression.new.exprs.items c.in_ok-index-in-Ok.field-0 (λ s. s.now) (expr c.in-Ok.rest.now) c.in-Err-2.bad c.in-Err-2.is c.in_ok-index-in-Ok.ensures.answer in
    c.in-Ok.ensures.answer (then expr (ended f)) ∙ expr-stops c.in-Ok.rest.now c.in-Err-2.bad.now (ended f) h

pub returns-in-Err-clause-answer : goal.returns-in-Err-clause-answer
returns-in-Err-clause-answer c f = c.in-Err.ensures.answer (then expr (ended f))
