use Rattle.std.proofs.Common.{◌≡◌, sym, subst}
use Rattle.std.proofs.lemmas.Result.{on_ok_weaker}
use Rattle.std.specs.Global.{Box}
use Rattle.rx_rules.proofs.Common.{Term, does, begun}
use Rattle.rx_control.specs.declared.control.Control.{Control}
use Rattle.rx_control.specs.Stands.{StandsFor, AfterLocalStep}
use Rattle.rx_activities.specs.declared.hand.Hand.{Hand}
use Rattle.rx_activities.proofs.Walking.{stepped, steps_only, stays_known, has_term}
use Rattle.rx_activities.proofs.hand.Hand.local.Goals as goal

pub local_step-requires : goal.local_step-requires
local_step-requires c =
    let b = c.checked.ensures in
    let has = has_term c.args.p.now c.args.self.now b.0 b.1 c.requires.known in
    (has.0, subst (λ (x : Control). StandsFor c.args.p.now.script x has.0) (sym c.as_mut.ensures.value) has.1)

pub returns-clause-known : goal.returns-clause-known
returns-clause-known c =
    let a : Hand = c.args.self.now in
    let control : Box Control = record a.control { value = c.local_step.new.control } in
    let b : Hand = stepped a control c.local_step.new.batch in
    on_ok_weaker c.local_step.result
    (λ made. stays_known c.args.p.now a b (steps_only a control c.local_step.new.batch) c.requires.local
    (subst (λ (x : Control). (t : Term) → StandsFor c.args.p.now.script x t → AfterLocalStep c.args.p.now.script c.local_step.new.control (does x.vars a.place.0 t) × (c.local_step.new.batch ≡ begun t a.batch)) c.as_mut.ensures.value made))
    c.local_step.ensures
