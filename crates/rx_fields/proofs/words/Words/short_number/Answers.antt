use Rattle.std.proofs.Common.{sym, ◌∙◌}
use Rattle.rx_fields.proofs.Fronts.{number_first}
use Rattle.rx_fields.proofs.words.Words.short_number.Goals as goal

pub returns-clause-some : goal.returns-clause-some
returns-clause-some c =
    sym c.self.view_is
    ∙ number_first c.self.inside.rest.now c.in_ok-tail.tail.now c.in_ok-n.rest.now c.in_ok-n.n c.in_ok-n.ensures.low c.in_ok-tail.ensures c.in_ok-n.ensures.some (sym c.ends_word.ensures ∙ c.if-not-ends_word.false)
