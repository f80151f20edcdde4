use Rattle.rx_control.proofs.Bound.{granted-rest}
use Rattle.rx_control.proofs.control.Control.resume.Goals as goal

pub returns-then-is_err-clause-steps : goal.returns-then-is_err-clause-steps
returns-then-is_err-clause-steps c t = granted-rest c.args.faults t

pub returns-clause-steps : goal.returns-clause-steps
returns-clause-steps c t = granted-rest c.args.faults t
