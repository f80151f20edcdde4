use Rattle.std.proofs.Common.{refl}
use Rattle.rx_rules.proofs.Common.{Get}
use Rattle.rx_script.specs.Inside.Readers.{then, choose}
use Rattle.rx_script.specs.Inside.Exprs.{expr}
use Rattle.rx_script.specs.Inside.Items as read
use Rattle.rx_script.proofs.Reading.{moved, took-part, missed-part}
use Rattle.rx_script.proofs.items.get_index.Goals as goal

pub returns-in-Ok-clause-answer : goal.returns-in-Ok-clause-answer
returns-in-Ok-clause-answer c =
    let n = c.args.name.0 in
    let t = c.args.target.0 in
    let h = took-part c.index.new.exprs.items c.in_ok-index.field-0 (λ s. s.now) (λ f. choose (read.square (then expr (λ e. choose (read.end_square (f e))))) c.args.tokens.now) c.in-Ok.index c.in-Ok.rest c.in-Ok.is c.in_ok-index.ensures.answer in
    moved c.index.new.exprs.items c.ends.result (λ s. s.now) _ _
    (h.2 (λ e. read.ends (read.Whole (Get n t e))))
    (c.ends.ensures.answer c.index.new.exprs.items (read.Whole (Get n t h.0)) (refl, refl, h.1))

pub returns-in-Err-clause-answer : goal.returns-in-Err-clause-answer
returns-in-Err-clause-answer c =
    let h = missed-part c.index.new.exprs.items c.in_ok-index.field-0 (λ s. s.now) (λ f. choose (read.square (then expr (λ e. choose (read.end_square (f e))))) c.args.tokens.now) c.in-Err.bad c.in-Err.is c.in_ok-index.ensures.answer in
    h (λ e. read.ends (read.Whole (Get c.args.name.0 c.args.target.0 e)))
