use Rattle.std.proofs.Common.{◌≡◌, Option, ◌∙◌, ap, subst, IfOk}
use Rattle.rx_rules.proofs.Common.{tree_of}
use Rattle.rx_coordinator.specs.declared.seats.Seat.{Seat}
use Rattle.rx_coordinator.specs.Telling.{seat_told}
use Rattle.rx_lines.specs.Inside.Noting.{note_of}
use Rattle.rx10_coordinator.proofs.desk.Desk.noted.Goals as goal

pub returns : goal.returns
returns c = λ p es k e.
    subst (λ (row : Option Seat). IfOk c.of.result (λ n. n ≡ note_of row c.args.request.now))
    (c.seat-row.ensures p es k ∙ ap (seat_told (tree_of p es)) c.asker.ensures) c.of.ensures
