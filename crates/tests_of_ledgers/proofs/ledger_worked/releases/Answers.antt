use Rattle.std.proofs.Common.{refl, None}
use Rattle.rx_ticket.specs.declared.tickets.AnyTicket.TheVariants.{Held}
use Rattle.rx_history.specs.declared.asks.Ask.TheVariants.{Release}
use Rattle.rx_ledger.specs.declared.asks.Request.{Request}
use Rattle.tests_of_ledgers.proofs.Scenes.{still_travels}
use Rattle.tests_of_ledgers.proofs.ledger_worked.releases.Goals as goal

pub returns : goal.returns
returns g c =
    let q : Request = record { ticket = Held c.args.ticket; ask = Release; batch = c.open.result; path = None } in
    still_travels c.args.keeper.now c.ask.new.keeper q c.ask.result c.args.ticket c.args.child.now refl c.requires.apart c.ask.ensures.history c.requires.child c.ask.ensures.applied c.ask.ensures.numbers
