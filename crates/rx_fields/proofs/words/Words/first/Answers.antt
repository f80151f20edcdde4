use Rattle.std.proofs.Common.{ap, sym, ◌∙◌}
use Rattle.rx_fields.specs.Words.{first_word}
use Rattle.rx_fields.proofs.Taken.{none-left, next-word}
use Rattle.rx_fields.proofs.words.Words.first.Goals as goal

pub returns-in-None : goal.returns-in-None
returns-in-None c = sym (ap first_word (sym c.self.view_is ∙ none-left c.self.inside.rest.now c.in-None.ensures.none))

pub returns-in-Some : goal.returns-in-Some
returns-in-Some c =
    next-word c.run_len-len.result c.self.inside.rest.now c.in-Some.field-0-0.now c.in-Some.tail.now c.in-Some.ensures.some.0 c.in-Some.ensures.some.1 c.run_len-len.ensures.run
    ∙ ap first_word c.self.view_is
