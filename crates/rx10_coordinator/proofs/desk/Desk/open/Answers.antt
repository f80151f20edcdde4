use Rattle.std.proofs.Common.{[], false, refl}
use Rattle.rx10_coordinator.proofs.desk.Desk.open.Goals as goal

pub returns-clause-open : goal.returns-clause-open
returns-clause-open c =
    let k = c.in_ok-parking.parking in (
      record { entries = []; waiters = k.waiters; is_short = false },
      record { entries = refl; waiters = c.in_ok-parking.ensures.none; plenty = refl },
      record { parks = c.in_ok-parking.ensures.parks; waiters = refl },
    )
