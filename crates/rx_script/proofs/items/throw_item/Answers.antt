use Rattle.rx_rules.proofs.Common.{Throw}
use Rattle.rx_script.specs.Inside.Readers.{done, then, choose}
use Rattle.rx_script.specs.Inside.Exprs.{expr}
use Rattle.rx_script.specs.Inside.Items as read
use Rattle.rx_script.proofs.Reading.{took-part, missed-part}
use Rattle.rx_script.proofs.items.throw_item.Goals as goal

pub returns-in-Ok-clause-answer : goal.returns-in-Ok-clause-answer
returns-in-Ok-clause-answer c =
    let h = took-part c.value.new.exprs.items c.in_ok-value.field-0 (λ s. s.now) (λ f. then expr (λ e. choose (read.semicolon (f e))) c.args.tokens.now) c.in-Ok.value c.in-Ok.rest c.in-Ok.is c.in_ok-value.ensures.answer in
    (read.Whole (Throw h.0), h.1, h.2 (λ e. done (read.Whole (Throw e))))

pub returns-in-Err-clause-answer : goal.returns-in-Err-clause-answer
returns-in-Err-clause-answer c =
    let h = missed-part c.value.new.exprs.items c.in_ok-value.field-0 (λ s. s.now) (λ f. then expr (λ e. choose (read.semicolon (f e))) c.args.tokens.now) c.in-Err.bad c.in-Err.is c.in_ok-value.ensures.answer in
    h (λ e. done (read.Whole (Throw e)))
