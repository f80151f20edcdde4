use Rattle.std.proofs.Common.{Some, None, refl, sym, ◌∙◌}
use Rattle.rx_control.proofs.Carried.{took-list, took-stands, wait-grants}
use Rattle.rx_control.proofs.Bound.{emptied-rest}
use Rattle.rx_control.proofs.control.Control.take_faults.Goals as goal

pub returns-in-Some-clause-list : goal.returns-in-Some-clause-list
returns-in-Some-clause-list c s t here faults h k = took-list s c.args.self.now t here.0 faults (Some c.in-Some.faults) (sym c.in-Some.ensures.value) h k

pub returns-in-Some-clause-after : goal.returns-in-Some-clause-after
returns-in-Some-clause-after c s t here faults h k = took-stands s c.args.self.now _ t here.0 faults refl refl c.take.ensures.after h k

pub returns-in-None-clause-list : goal.returns-in-None-clause-list
returns-in-None-clause-list c s t here faults h k = c.open.ensures ∙ took-list s c.args.self.now t here.0 faults None (sym c.in-None.ensures.value) h k

pub returns-in-None-clause-after : goal.returns-in-None-clause-after
returns-in-None-clause-after c s t here faults h k = took-stands s c.args.self.now _ t here.0 faults refl refl c.take.ensures.after h k

pub returns-in-Some-clause-steps : goal.returns-in-Some-clause-steps
returns-in-Some-clause-steps c t = emptied-rest t

pub returns-in-None-clause-steps : goal.returns-in-None-clause-steps
returns-in-None-clause-steps c t = emptied-rest t

pub returns-in-Some-clause-wait : goal.returns-in-Some-clause-wait
returns-in-Some-clause-wait c t here faults list h = wait-grants c.args.self.now.vars here.0 t faults list h

pub returns-in-None-clause-wait : goal.returns-in-None-clause-wait
returns-in-None-clause-wait c t here faults list h = wait-grants c.args.self.now.vars here.0 t faults list h
