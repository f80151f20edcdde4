use Rattle.std.proofs.Common.{Option, Some, subst}
use Rattle.rx_ticket.specs.declared.tickets.AnyTicket.{AnyTicket}
use Rattle.rx_book.specs.Named.{BookName}
use Rattle.rx_objects.specs.declared.ledger.LedgerFixed.{LedgerFixed}
use Rattle.rx_activities.specs.declared.replies.Child.{Child}
use Rattle.rx_activities.specs.Inside.Births.{IsBorn, IsStarted, StartsKnowing}
use Rattle.rx_activities.proofs.replies.start.Goals as goal

pub begin-requires : goal.begin-requires
begin-requires g c =
    let arm = c.in-Some-Some in
    let born : IsBorn (g.L.LedgerBook.name c.args.ledger.now) c.args.place c.args.pass.now c.in-Some-Some.ticket c.in-Some-Some.child =
    subst (λ (o : Option Child). IsStarted (g.L.LedgerBook.name c.args.ledger.now) c.args.place c.args.pass.now (Some c.in-Some-Some.ticket) o) arm.is-1
    (subst (λ (o : Option AnyTicket). IsStarted (g.L.LedgerBook.name c.args.ledger.now) c.args.place c.args.pass.now o c.args.child) arm.is-0 c.requires.child) in
    subst (λ (M : BookName LedgerFixed). StartsKnowing M c.args.place c.in-Some-Some.ticket c.in-Some-Some.child.control.value c.meet.new.pass c.in-Some-Some.child.seat) c.requires.ledger
    (born.begins c.meet.new.pass (record { word = c.meet.ensures.own; note = c.in-Ok.note; noted = c.in-Ok.ensures.seen; meets = c.meet.ensures.met }))
