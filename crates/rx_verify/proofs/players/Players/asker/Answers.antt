use Rattle.std.proofs.Common.{ap, sym, ◌∙◌}
use Rattle.std.specs.Global.{Box}
use Rattle.rx_verify.specs.declared.seat.Seat.{Seat}
use Rattle.rx_verify.specs.Reaching.{right}
use Rattle.rx_verify.proofs.AdmitSlots.{same_seat}
use Rattle.rx_verify.proofs.players.Players.asker.Goals as goal

pub returns-then-is_right : goal.returns-then-is_right
returns-then-is_right c = λ seat at.
    let e = c.deref-seat.ensures ∙ ap (λ (v : Box Seat). v.value) (same_seat c.args.self.now.slots.items c.args.task.0 c.index.result.now c.in-Here.seat seat c.index.ensures c.in-Here.is at) in
    (ap (λ (v : Seat). right c.args.stop v.home c.args.act.now) (sym e) ∙ (sym c.is_right.ensures ∙ c.if-is_right.true), ap (λ (v : Seat). v.who) e)

pub returns-else-is_right : goal.returns-else-is_right
returns-else-is_right c = λ seat at.
    let e = c.deref-seat.ensures ∙ ap (λ (v : Box Seat). v.value) (same_seat c.args.self.now.slots.items c.args.task.0 c.index.result.now c.in-Here.seat seat c.index.ensures c.in-Here.is at) in
    ap (λ (v : Seat). right c.args.stop v.home c.args.act.now) (sym e) ∙ (sym c.is_right.ensures ∙ c.if-is_right.false)
