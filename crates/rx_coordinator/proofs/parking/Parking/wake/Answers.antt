use Rattle.rx_rules.proofs.Common.{tree_of}
use Rattle.rx_coordinator.proofs.Waiting.{nearest_due}
use Rattle.rx_coordinator.proofs.parking.Parking.wake.Goals as goal

pub returns-in-Some-clause-due : goal.returns-in-Some-clause-due
returns-in-Some-clause-due c = λ p es st leads all.
    let old = c.args.self.now in
    nearest_due (tree_of p es) st.tree.reached old.waiters old.due c.with-self.result c.args.from c.in-Some.scope (c.in-Some.ensures p es st leads) all c.with-self.ensures.here c.with-self.ensures.others c.with-self.ensures.more

pub returns-in_default-clause-due : goal.returns-in_default-clause-due
returns-in_default-clause-due c = λ p es st leads all n who e on still. absurd (c.in_default.ensures p es st leads n who e on)
