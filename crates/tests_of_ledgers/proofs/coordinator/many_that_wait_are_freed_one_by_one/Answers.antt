use Rattle.std.proofs.Common.{[]}
use Rattle.tests_of_ledgers.proofs.coordinator.many_that_wait_are_freed_one_by_one.Goals as goal

pub many_wait-requires : goal.many_wait-requires
many_wait-requires g c = (2, [], c.in_ok-parking.ensures.parks)
