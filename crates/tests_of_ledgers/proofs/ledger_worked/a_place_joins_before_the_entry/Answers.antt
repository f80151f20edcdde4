use Rattle.rx_ledger.proofs.Rows.{main_begins}
use Rattle.tests_of_ledgers.proofs.ledger_worked.a_place_joins_before_the_entry.Goals as goal

pub prints-ticket-requires : goal.prints-ticket-requires
prints-ticket-requires g c =
    let k = c.in_ok-keeper.keeper in
    main_begins k.setup.places k.entries c.in_ok-keeper.ticket c.in_ok-keeper.ensures.empty.0 c.in_ok-keeper.ensures.ticket
