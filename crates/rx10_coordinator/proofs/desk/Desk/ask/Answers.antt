use Rattle.std.proofs.Common.{◌++◌, true, refl, codes}
use Rattle.rx_lines.specs.Replies.{answer_line}
use Rattle.rx_lines.specs.Session.{freed_lines}
use Rattle.rx_lines.specs.Session.LineAnswered.{unread, replied}
use Rattle.rx10_coordinator.proofs.Logging.{or-map, inr-map}
use Rattle.rx10_coordinator.proofs.desk.Desk.ask.Goals as goal

pub returns-in-Ok : goal.returns-in-Ok
returns-in-Ok g c = λ p b bytes x h on is now.
    or-map c.reply.result _ _ _ _ (c.reply.ensures p b x h on (λ e. c.in-Ok.ensures p b.entries on.parks e) now)
    (λ r. (r.3, answer_line r.0 ++ freed_lines r.2, replied c.args.request r.0 r.1 r.2 is r.4 r.5 refl, r.6, r.7, r.8))
    (λ k. inr-map k (λ r. (r.3, answer_line r.0 ++ freed_lines r.2, replied c.args.request r.0 r.1 r.2 is r.4 r.5 refl, r.6, r.7)))

pub returns-in-Err : goal.returns-in-Err
returns-in-Err g c = λ p b bytes x h on is now. (
  record b { is_short = true },
  codes "no memory\n",
  unread refl refl,
  record { parks = on.parks; waiters = on.waiters },
  now,
  c.put.ensures,
)
