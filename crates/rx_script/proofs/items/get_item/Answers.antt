use Rattle.std.proofs.Common.{ℕ, ◌∙◌}
use Rattle.rx_rules.proofs.Common.{Get}
use Rattle.rx_script.specs.Inside.Readers.{Reader, then, choose}
use Rattle.rx_script.specs.Inside.Exprs.{expr}
use Rattle.rx_script.specs.Inside.Items as read
use Rattle.rx_script.proofs.Reading.{moved-ok}
use Rattle.rx_script.proofs.items.get_item.Goals as goal

-- what follows the target
abbrev indexed : ℕ → ℕ → Reader read.Item
indexed n t = choose (read.square (then expr (λ e. choose (read.end_square (read.ends (read.Whole (Get n t e)))))))

-- what follows the sign that assigns
abbrev gets : ℕ → Reader read.Item
gets n = then (choose read.called) (indexed n)

pub returns-in-Ok-called-clause-answer : goal.returns-in-Ok-called-clause-answer
returns-in-Ok-called-clause-answer c =
    moved-ok c.get_index.new.exprs.items c.get_index.result (λ s. s.now) _ _
    (c.in-Ok.ensures.answer gets ∙ c.in-Ok-called.ensures.answer (indexed c.in-Ok.name.0))
    c.get_index.ensures.answer

pub returns-in-Err-called-clause-answer : goal.returns-in-Err-called-clause-answer
returns-in-Err-called-clause-answer c =
    c.in-Ok.ensures.answer gets ∙ c.in-Err-called.ensures.answer (indexed c.in-Ok.name.0)

pub returns-in-Err-clause-answer : goal.returns-in-Err-clause-answer
returns-in-Err-clause-answer c = c.in-Err.ensures.answer gets
