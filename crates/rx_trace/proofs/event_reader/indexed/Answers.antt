use Rattle.std.proofs.Common.{sym, ap, ◌∙◌}
use Rattle.std.specs.Int.{w64}
use Rattle.std.proofs.lemmas.Int.{to_z-of_z}
use Rattle.rx_fields.specs.Words.{answer_left}
use Rattle.rx_fields.specs.Inside.Readers.{after}
use Rattle.rx_trace.specs.Inside.EventWords.{got_at}
use Rattle.rx_trace.proofs.Ends.{number-fits}
use Rattle.rx_trace.proofs.event_reader.indexed.Goals as goal

pub returns : goal.returns
returns c =
    let was = sym (ap (λ r. answer_left r c.number_field.new.words) (sym c.in_ok-index.was) ∙ c.number_field.ensures) in
    c.got.ensures
    ∙ ap (λ z. got_at c.args.target z c.number_field.new.words) (to_z-of_z w64 c.in_ok-index.index (number-fits c.args.words.now c.number_field.new.words c.in_ok-index.index was))
    ∙ sym (ap (λ o. after o (got_at c.args.target)) was)
