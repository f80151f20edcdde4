use Rattle.std.proofs.Common.{subst}
use Rattle.rx_rules.proofs.Common.{Does, does}
use Rattle.rx_control.specs.Stands.{AfterLocalStep}
use Rattle.rx_plan.proofs.Told.{told_local}
use Rattle.tests_of_scripts.proofs.control.local_step.Goals as goal

pub returns : goal.returns
returns c =
    let t = c.requires.0 in
    let told = told_local (does c.args.task.now.vars c.args.here.0 t) c.requires.2 in
    (told.0, (subst (λ (d : Does). AfterLocalStep c.args.p.now.script c.local.new.self d) told.2 (c.in_ok-local.ensures.ok t c.requires.1)).0)
