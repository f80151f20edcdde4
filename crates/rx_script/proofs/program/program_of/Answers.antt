use Rattle.std.proofs.Common.{ap, ◌∙◌, Err, subst, sym}
use Rattle.rx_script.specs.Faults.{IsFaultAt}
use Rattle.rx_script.proofs.program.program_of.Goals as goal

pub returns-in-Err-Syntax-clause-fault : goal.returns-in-Err-Syntax-clause-fault
returns-in-Err-Syntax-clause-fault c =
    let own : IsFaultAt c.args.bytes.now c.in-Err-Syntax.at = c.read_script.ensures.syntax c.in-Err-Syntax.at (c.in-Err-Syntax.is ∙ ap Err c.in-Err-Syntax.field-0-is) in
    let there = subst (IsFaultAt c.args.bytes.now) (sym c.in-Err-Syntax.at-is) own in
    (there, λ code s. c.no_fault_in_script.ensures c.args.bytes.now code c.in-Err-Syntax.at s own)

pub returns-in-Bad-clause-fault : goal.returns-in-Bad-clause-fault
returns-in-Bad-clause-fault c =
    let s = c.in-Ok.ensures.ok in
    (s.0, (c.in-Ok.script.names, s.2), c.in-Err.ensures.bad c.in-Bad.rule c.in-Bad.node c.in-Bad.is s.0 s.1)
