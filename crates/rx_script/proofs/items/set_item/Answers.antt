use Rattle.std.proofs.Common.{ℕ, refl, ◌∙◌}
use Rattle.rx_rules.proofs.Common.{SetTo}
use Rattle.rx_script.specs.Inside.Readers.{Reader, done, then, choose}
use Rattle.rx_script.specs.Inside.Exprs.{expr}
use Rattle.rx_script.specs.Inside.Items as read
use Rattle.rx_script.proofs.Reading.{took-part, missed-part}
use Rattle.rx_script.proofs.items.set_item.Goals as goal

-- what follows the sign that assigns
abbrev valued : ℕ → Reader read.Item
valued n = then expr (λ e. read.ends (read.Whole (SetTo n e)))

pub returns-in-Ok-2-clause-answer : goal.returns-in-Ok-2-clause-answer
returns-in-Ok-2-clause-answer c =
    let n = c.in-Ok.name.0 in
    let h = took-part c.value.new.exprs.items c.in_ok-value-in-Ok.field-0 (λ s. s.now) (λ f. then expr (λ e. choose (read.semicolon (f e))) c.in-Ok.rest.now) c.in-Ok-2.value c.in-Ok-2.rest c.in-Ok-2.is c.in_ok-value-in-Ok.ensures.answer in
    (read.Whole (SetTo n h.0), (refl, h.1), c.in-Ok.ensures.answer valued ∙ h.2 (λ e. done (read.Whole (SetTo n e))))

pub returns-in-Err-2-clause-answer : goal.returns-in-Err-2-clause-answer
returns-in-Err-2-clause-answer c =
    let n = c.in-Ok.name.0 in
    let h = missed-part c.value.new.exprs.items c.in_ok-value-in-Ok.field-0 (λ s. s.now) (λ f. then expr (λ e. choose (read.semicolon (f e))) c.in-Ok.rest.now) c.in-Err-2.bad c.in-Err-2.is c.in_ok-value-in-Ok.ensures.answer in
    c.in-Ok.ensures.answer valued ∙ h (λ e. done (read.Whole (SetTo n e)))

pub returns-in-Err-clause-answer : goal.returns-in-Err-clause-answer
returns-in-Err-clause-answer c = c.in-Err.ensures.answer valued
