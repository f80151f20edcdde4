use Rattle.std.proofs.Common.{subst}
use Rattle.rx_ticket.specs.declared.tickets.AnyTicket.{AnyTicket}
use Rattle.rx_activities.specs.Inside.Births.{StartsKnowing}
use Rattle.rx_activities.proofs.replies.begin.Goals as goal

pub traveller_of-requires : goal.traveller_of-requires
traveller_of-requires g c =
    subst (λ (t : AnyTicket). StartsKnowing g.N.Naming.ledger c.args.place t c.args.control.value c.args.pass c.args.seat) c.in-Moving-default.is-0 c.requires
