use Rattle.std.proofs.Common.{◌≡◌, ap, sym, ◌∙◌, rules}
use Rattle.rx_rules.proofs.Common.{Waits, Done, does}
use Rattle.rx_history.specs.declared.step.Next.TheVariants.{Book as BookStep}
use Rattle.rx_history.specs.declared.step.Want.TheVariants.{Wait as WantWait}
use Rattle.rx_history.specs.Next.{carried}
use Rattle.rx_plan.proofs.Requests.{asks_wait, asks_end}
use Rattle.rx_activities.proofs.AskedSteps.{ready_waits}
use Rattle.rx_activities.proofs.asking.ask_of.Goals as goal

pub returns-in-Book-Wait-clause-suits : goal.returns-in-Book-Wait-clause-suits
returns-in-Book-Wait-clause-suits c = λ s t here stands n.
    let is : c.args.next ≡ BookStep WantWait = search rules in
    let d = asks_wait (does c.args.control.now.vars here.0 t) (sym n ∙ is) in
    d.1 ∙ ap Waits (sym (c.take_faults.ensures.list s t here d.0 stands (ap carried d.1)))

pub returns-in-Book-Wait-clause-ready : goal.returns-in-Book-Wait-clause-ready
returns-in-Book-Wait-clause-ready c = λ s.
    let is : c.args.next ≡ BookStep WantWait = search rules in
    ready_waits s c.args.next c.args.control.now c.take_faults.new.self is c.take_faults.ensures.vars (c.take_faults.ensures.after s) c.take_faults.ensures.wait

pub returns-in-Done-clause-suits : goal.returns-in-Done-clause-suits
returns-in-Done-clause-suits c = λ s t here stands n.
    let d = asks_end (does c.args.control.now.vars here.0 t) (sym n ∙ c.in-Done.is) in
    d.1 ∙ ap Done (sym (c.take_faults-in-Done.ensures.list s t here d.0 stands (ap carried d.1)))
