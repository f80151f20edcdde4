use Rattle.rx_coordinator.specs.Parking.{Parks}
use Rattle.tests_of_ledgers.proofs.Requests.{beside}
use Rattle.tests_of_ledgers.proofs.coordinator.answered.Goals as goal

pub returns : goal.returns
returns c =
    let r = c.requires in
    let k = c.ask-answer.new.self in
    let fs = beside r.0 r.1 c.args.request c.args.parking.now.waiters k.waiters c.ask-answer.result (λ es. Parks k r.0 es) (c.ask-answer.ensures r.0 r.1 r.2) in
    (r.0, fs.0, fs.1)
