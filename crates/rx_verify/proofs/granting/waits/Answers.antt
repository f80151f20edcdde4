use Rattle.rx_verify.proofs.Agreeing.{wait_decides}
use Rattle.rx_verify.proofs.granting.waits.Goals as goal

pub returns-in-Ok : goal.returns-in-Ok
returns-in-Ok g c = λ room T stands may.
    let a = c.args in
    wait_decides T a.who a.scope c.in_ok-faults.faults a.thrown.now (g.L.FinishLedger.stands c.wait.new.self room) c.eq.result c.eq.ensures c.in_ok-faults.ensures (c.in-Ok.ensures room T stands may)
