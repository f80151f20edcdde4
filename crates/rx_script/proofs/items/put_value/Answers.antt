use Rattle.std.proofs.Common.{ℕ, refl, ◌∙◌}
use Rattle.rx_rules.proofs.Common.{Expr as Tree, Put}
use Rattle.rx_script.specs.Inside.Readers.{Reader, done, then, choose}
use Rattle.rx_script.specs.Inside.Exprs.{expr}
use Rattle.rx_script.specs.Inside.Items as read
use Rattle.rx_script.proofs.Growing.{expr-grows}
use Rattle.rx_script.proofs.Reading.{took-part, missed-part}
use Rattle.rx_script.proofs.items.put_value.Goals as goal

-- what follows the sign that assigns
abbrev valued : ℕ → Tree → Reader read.Item
valued t i = then expr (λ e. read.ends (read.Whole (Put t i e)))

pub returns-in-Ok-2-clause-answer : goal.returns-in-Ok-2-clause-answer
returns-in-Ok-2-clause-answer c i s =
    let t = c.args.target.0 in
    let h = took-part c.value.new.exprs.items c.in_ok-value-in-Ok.field-0 (λ s. s.now) (λ f. then expr (λ e. choose (read.semicolon (f e))) c.in-Ok.rest.now) c.in-Ok-2.value c.in-Ok-2.rest c.in-Ok-2.is c.in_ok-value-in-Ok.ensures.answer in (
      read.Whole (Put t i h.0),
      (refl, expr-grows c.args.exprs.now.items c.value.new.exprs.items c.in_ok-value-in-Ok.ensures.grows c.args.index i s, h.1),
      c.in-Ok.ensures.answer (valued t i) ∙ h.2 (λ e. done (read.Whole (Put t i e))),
    )

pub returns-in-Err-2-clause-answer : goal.returns-in-Err-2-clause-answer
returns-in-Err-2-clause-answer c i s =
    let t = c.args.target.0 in
    let h = missed-part c.value.new.exprs.items c.in_ok-value-in-Ok.field-0 (λ s. s.now) (λ f. then expr (λ e. choose (read.semicolon (f e))) c.in-Ok.rest.now) c.in-Err-2.bad c.in-Err-2.is c.in_ok-value-in-Ok.ensures.answer in
    c.in-Ok.ensures.answer (valued t i) ∙ h (λ e. done (read.Whole (Put t i e)))

pub returns-in-Err-clause-answer : goal.returns-in-Err-clause-answer
returns-in-Err-clause-answer c i s = c.in-Err.ensures.answer (valued c.args.target.0 i)
