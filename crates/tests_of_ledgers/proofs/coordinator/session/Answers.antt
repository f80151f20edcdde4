use Rattle.std.proofs.Common.{[]}
use Rattle.tests_of_ledgers.proofs.coordinator.session.Goals as goal

pub plays-requires : goal.plays-requires
plays-requires g c = (c.args.places, [], c.in_ok-parking.ensures.parks)
