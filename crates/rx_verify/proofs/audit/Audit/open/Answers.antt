use Rattle.std.proofs.Common.{refl}
use Rattle.rx_history.specs.Setups.{given}
use Rattle.rx_verify.proofs.Audited.{opened_audit}
use Rattle.rx_verify.proofs.audit.Audit.open.Goals as goal

pub returns : goal.returns
returns g c = opened_audit g.L.FinishLedger.stands (given c.args.setup.now) _ c.requires.proper c.requires.opened c.in_ok-plan.ensures refl refl
