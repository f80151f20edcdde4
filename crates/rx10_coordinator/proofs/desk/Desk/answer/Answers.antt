use Rattle.std.proofs.Common.{◌∙◌, true, refl, sym, codes}
use Rattle.rx_lines.specs.Session.LineAnswered.{malformed, unread}
use Rattle.rx10_coordinator.proofs.desk.Desk.answer.Goals as goal

pub returns-in-Ok-Some : goal.returns-in-Ok-Some
returns-in-Ok-Some g c = λ p b bytes x h on line now.
    c.ask.ensures p b bytes x h on (sym (c.in-Ok-Some.ensures bytes line) ∙ c.in-Ok-Some.field-0-is) now

pub returns-in-Ok-None : goal.returns-in-Ok-None
returns-in-Ok-None g c = λ p b bytes x h on line now.
    let is = sym (c.in-Ok-None.ensures bytes line) ∙ c.in-Ok-None.field-0-is in
    (b, codes "malformed\n", malformed is refl refl, on, now, c.put.ensures)

pub returns-in-Err : goal.returns-in-Err
returns-in-Err g c = λ p b bytes x h on line now. (
  record b { is_short = true },
  codes "no memory\n",
  unread refl refl,
  record { parks = on.parks; waiters = on.waiters },
  now,
  c.put-in-Err.ensures,
)
