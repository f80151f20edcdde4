use Rattle.std.proofs.Common.{refl, None}
use Rattle.rx_history.specs.Setups.{given}
use Rattle.rx_ticket.specs.declared.tickets.AnyTicket.TheVariants.{Running}
use Rattle.rx_history.specs.declared.asks.Ask.TheVariants.{Wait}
use Rattle.rx_ledger.specs.declared.asks.Request.{Request}
use Rattle.rx_ledger.specs.declared.asks.Reply.TheVariants.{Waits}
use Rattle.rx_ledger.proofs.Called.{front_folds}
use Rattle.tests_of_ledgers.proofs.Scenes.{still_travels}
use Rattle.tests_of_ledgers.proofs.ledger_worked.waits.Goals as goal

pub ask-requires : goal.ask-requires
ask-requires g c =
    let k = c.args.keeper.now in
    (c.may_wait_next.ensures (given k.setup) k.entries c.args.ticket c.requires.owns.0 _ (front_folds (given k.setup) k.entries k.behind c.is_history.ensures.folds) c.requires.owns.1 c.requires.asks, tt)

pub returns-clause-child : goal.returns-clause-child
returns-clause-child g c =
    let q : Request = record { ticket = Running c.args.ticket; ask = Wait c.open.result; batch = c.open-2.result; path = None } in
    still_travels c.args.keeper.now c.ask.new.keeper q (Waits c.in-Waits.ticket) c.args.ticket c.args.child.now refl c.requires.apart c.in-Waits.ensures.history c.requires.child c.in-Waits.ensures.applied c.in-Waits.ensures.numbers
