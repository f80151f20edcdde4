use Rattle.std.proofs.Common.{ℕ, ◌∙◌}
use Rattle.rx_rules.proofs.Common.{Expr as Tree, Put}
use Rattle.rx_script.specs.Inside.Readers.{Reader, then, choose}
use Rattle.rx_script.specs.Inside.Exprs.{expr}
use Rattle.rx_script.specs.Inside.Items as read
use Rattle.rx_script.proofs.Reading.{moved-ok, took-part, missed-part}
use Rattle.rx_script.proofs.items.put_item.Goals as goal

-- what follows the index
abbrev assigns : ℕ → Tree → Reader read.Item
assigns t i = choose (read.equals_then (then expr (λ e. read.ends (read.Whole (Put t i e)))))

-- what follows the target
abbrev indexed : ℕ → Reader read.Item
indexed t = choose (read.square (then expr (λ i. choose (read.end_square (assigns t i)))))

pub returns-in-Ok-2-clause-answer : goal.returns-in-Ok-2-clause-answer
returns-in-Ok-2-clause-answer c =
    let h = took-part c.index.new.exprs.items c.in_ok-index-in-Ok.field-0 (λ s. s.now) (λ f. choose (read.square (then expr (λ e. choose (read.end_square (f e))))) c.in-Ok.rest.now) c.in-Ok-2.index c.in-Ok-2.rest c.in-Ok-2.is c.in_ok-index-in-Ok.ensures.answer in
    moved-ok c.put_value.new.exprs.items c.put_value.result (λ s. s.now) _ _
    (c.in-Ok.ensures.answer indexed ∙ h.2 (assigns c.in-Ok.target.0))
    (c.put_value.ensures.answer h.0 h.1)

pub returns-in-Err-2-clause-answer : goal.returns-in-Err-2-clause-answer
returns-in-Err-2-clause-answer c =
    let h = missed-part c.index.new.exprs.items c.in_ok-index-in-Ok.field-0 (λ s. s.now) (λ f. choose (read.square (then expr (λ e. choose (read.end_square (f e))))) c.in-Ok.rest.now) c.in-Err-2.bad c.in-Err-2.is c.in_ok-index-in-Ok.ensures.answer in
    c.in-Ok.ensures.answer indexed ∙ h (assigns c.in-Ok.target.0)
