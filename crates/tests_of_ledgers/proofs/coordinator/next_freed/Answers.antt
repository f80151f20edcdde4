use Rattle.rx_coordinator.specs.Parking.{Parks}
use Rattle.tests_of_ledgers.proofs.Requests.{freed}
use Rattle.tests_of_ledgers.proofs.coordinator.next_freed.Goals as goal

pub returns : goal.returns
returns c =
    let r = c.requires in
    let k = c.free-freed.new.self in
    let fs = freed r.0 r.1 c.free-freed.result c.args.parking.now.waiters k.waiters (λ es. Parks k r.0 es) (c.free-freed.ensures r.0 r.1 r.2) in
    (r.0, fs.0, fs.1)
