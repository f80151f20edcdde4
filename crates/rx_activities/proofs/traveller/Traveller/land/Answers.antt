use Rattle.std.proofs.Common.{sym, ◌∙◌, subst, refl, [], None}
use Rattle.rx_rules.proofs.Common.{PlaceId}
use Rattle.rx_check.specs.Checked.{Checked}
use Rattle.rx_history.specs.declared.asks.Ask.TheVariants.{Arrive}
use Rattle.rx_syntax.specs.Shape.{Stands}
use Rattle.rx_book.specs.Named.{BookName}
use Rattle.rx_objects.specs.declared.ledger.LedgerFixed.{LedgerFixed}
use Rattle.rx_objects.specs.declared.ledger.LedgerOp.{LedgerOp}
use Rattle.rx_ticket.specs.declared.tickets.AnyTicket.TheVariants.{Moving, Running}
use Rattle.rx_activities.specs.Knowing.{IsNewSeat}
use Rattle.rx_activities.specs.Starting.{TravellerInvariant}
use Rattle.rx_activities.specs.Inside.Births.{IsWith}
use Rattle.rx_activities.proofs.Later.{of_named}
use Rattle.rx_activities.proofs.Landed.{arrival_asks, landed_knows}
use Rattle.rx_activities.proofs.traveller.Traveller.land.Goals as goal

pub ask-requires-clause-asks : goal.ask-requires-clause-asks
ask-requires-clause-asks g c =
    let op : LedgerOp = record {
      request = record { ticket = Moving c.self.inside.ticket; ask = Arrive; batch = c.open.result; path = None };
      note = None;
      mentions = record { before = c.of.result; now = c.of-2.result; child = c.of-3.result; seat = c.of-4.result };
    } in
    let comes = subst (λ (M : BookName LedgerFixed). TravellerInvariant M c.self.inside.control.value c.self.inside.ticket c.self.inside.pass) (sym c.requires.ledger) c.self.invariant in
    λ code stands.
    arrival_asks (g.L.LedgerBook.name c.args.ledger.now) c.self.inside.control.value c.self.inside.ticket c.self.inside.pass op (λ i. record { ticket = Moving c.self.inside.ticket; ask = Arrive; batch = c.open.ensures i; path = None }) (c.of.ensures ∙ sym c.of-2.ensures) refl code
    (comes.stands code (subst (λ (q : Checked). Stands q.script code) (sym c.requires.program) stands))

pub activity_with-requires : goal.activity_with-requires
activity_with-requires g c =
    let op : LedgerOp = record {
      request = record { ticket = Moving c.self.inside.ticket; ask = Arrive; batch = c.open.result; path = None };
      note = None;
      mentions = record { before = c.of.result; now = c.of-2.result; child = c.of-3.result; seat = c.of-4.result };
    } in
    let comes = subst (λ (M : BookName LedgerFixed). TravellerInvariant M c.self.inside.control.value c.self.inside.ticket c.self.inside.pass) (sym c.requires.ledger) c.self.invariant in
    let new = subst (λ (q : PlaceId). IsNewSeat (g.L.LedgerBook.name c.args.ledger.now) q c.args.seat) (sym c.self.view_is) (subst (λ (M : BookName LedgerFixed). IsNewSeat M c.args.self c.args.seat) (sym c.requires.ledger) c.requires.seat) in
    of_named (g.L.LedgerBook.name c.args.ledger.now) _ _ c.requires.ledger
    (landed_knows (g.L.LedgerBook.name c.args.ledger.now) c.self.inside.control.value c.self.inside.ticket c.self.inside.pass comes c.args.seat new op
    (λ i. record { ticket = Moving c.self.inside.ticket; ask = Arrive; batch = c.open.ensures i; path = None }) (c.of.ensures ∙ sym c.of-2.ensures) c.of-4.ensures c.in-Landed.ticket c.ask.new.pass c.in-Landed.ensures.own
    c.in-Landed.ensures.replied c.fresh-hand.result
    (subst (λ (p : PlaceId). IsWith c.self.inside.control.value p c.ask.new.pass c.args.seat (Running c.in-Landed.ticket) [] c.fresh-hand.result) (c.target-place.ensures ∙ sym c.self.view_is) c.fresh-hand.ensures))
