use Rattle.std.proofs.Common.{ap, sym, ◌∙◌}
use Rattle.rx_text.specs.Numbers.{natural_text}
use Rattle.rx_fields.specs.Words.{answer_left, pieces}
use Rattle.rx_trace.specs.Inside.EventWords.{event_at}
use Rattle.rx_trace.proofs.Numbered.{read_behind}
use Rattle.rx_trace.proofs.stage.read_event.Goals as goal

pub returns-in-Some-2 : goal.returns-in-Some-2
returns-in-Some-2 c =
    read_behind (natural_text c.args.n) (event_at c.args.home) (pieces 32 c.args.line.now) c.in-Some.words c.event.new.words c.in-Some-2.event c.in-Some.ensures
    (ap (λ o. answer_left o c.event.new.words) (sym c.in-Some-2.is) ∙ c.in_ok-event.ensures) (sym c.is_empty.ensures ∙ c.if-is_empty.true)
