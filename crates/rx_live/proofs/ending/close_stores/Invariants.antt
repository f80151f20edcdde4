use Rattle.std.proofs.Common.{length}
use Rattle.rx_history.specs.Events.{events_of}
use Rattle.rx_live.proofs.Shut.{ShutTo}
use Rattle.rx_live.proofs.ending.close_stores.Given as goal

abbrev pub invariant-store : goal.invariant-store
invariant-store l = ShutTo l.fn.history.entries l.fn.stores.items l.stores.items l.place (events_of l.journals)

abbrev pub decreases-store : goal.decreases-store
decreases-store l = length l.stores.items
