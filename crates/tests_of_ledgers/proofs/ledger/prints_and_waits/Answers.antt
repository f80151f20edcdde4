use Rattle.rx_ledger.proofs.Rows.{main_begins}
use Rattle.tests_of_ledgers.proofs.ledger.prints_and_waits.Goals as goal

pub apply-printed-requires : goal.apply-printed-requires
apply-printed-requires c =
    let k = c.in_ok-keeper.keeper in
    (main_begins k.setup.places k.entries c.in_ok-keeper.ticket c.in_ok-keeper.ensures.empty.0 c.in_ok-keeper.ensures.ticket, tt)
