use Rattle.rx_control.proofs.Bound.{local-falls}
use Rattle.rx_control.proofs.control.Control.local.Goals as goal

pub returns-in_err-reserve-clause-steps : goal.returns-in_err-reserve-clause-steps
returns-in_err-reserve-clause-steps c t = local-falls c.args.self.now.vars c.args.here.0 t

pub returns-clause-steps : goal.returns-clause-steps
returns-clause-steps c t = local-falls c.args.self.now.vars c.args.here.0 t
