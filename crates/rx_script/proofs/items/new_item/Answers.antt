use Rattle.std.proofs.Common.{ℕ, refl, ◌∙◌}
use Rattle.rx_rules.proofs.Common.{New}
use Rattle.rx_syntax.specs.Grammar.{may_hold}
use Rattle.rx_script.specs.Inside.Readers.{Reader, then, choose}
use Rattle.rx_script.specs.Inside.Items as read
use Rattle.rx_script.proofs.Reading.{moved}
use Rattle.rx_script.proofs.items.new_item.Goals as goal

-- what follows the sign that assigns
abbrev counts : ℕ → Reader read.Item
counts n = then (choose (read.counted may_hold)) (λ k. read.ends (read.Whole (New n k)))

pub returns-in-Ok-words-clause-answer : goal.returns-in-Ok-words-clause-answer
returns-in-Ok-words-clause-answer c es =
    let n = c.in-Ok.name.0 in
    moved es c.ends.result (λ s. s.now) _ _
    (c.in-Ok.ensures.answer counts ∙ c.in-Ok-words.ensures.answer (λ k. read.ends (read.Whole (New n k))))
    (c.ends.ensures.answer es (read.Whole (New n c.in-Ok-words.words)) (refl, refl))

pub returns-in-Err-words-clause-answer : goal.returns-in-Err-words-clause-answer
returns-in-Err-words-clause-answer c es =
    c.in-Ok.ensures.answer counts ∙ c.in-Err-words.ensures.answer (λ k. read.ends (read.Whole (New c.in-Ok.name.0 k)))

pub returns-in-Err-clause-answer : goal.returns-in-Err-clause-answer
returns-in-Err-clause-answer c es = c.in-Err.ensures.answer counts
