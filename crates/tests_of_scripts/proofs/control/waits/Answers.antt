use Rattle.rx_rules.proofs.Common.{does}
use Rattle.rx_plan.proofs.Told.{told_wait}
use Rattle.tests_of_scripts.proofs.control.waits.Goals as goal

pub ledger_grants-requires : goal.ledger_grants-requires
ledger_grants-requires g c =
    let t = c.requires.0 in
    let told = told_wait (does c.args.task.now.vars c.args.here.0 t) c.requires.2 in
    (_, c.take_faults.ensures.after c.args.p.now.script t c.args.here told.0 c.requires.1 told.1)
