use Rattle.rx_ledger.proofs.Rows.{main_begins}
use Rattle.tests_of_ledgers.proofs.ledger_worked.waits_for_one.Goals as goal

pub opens-ticket-requires-clause-asks : goal.opens-ticket-requires-clause-asks
opens-ticket-requires-clause-asks g c =
    let k = c.in_ok-keeper.keeper in
    main_begins k.setup.places k.entries c.in_ok-keeper.ticket c.in_ok-keeper.ensures.empty.0 c.in_ok-keeper.ensures.ticket
