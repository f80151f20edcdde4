use Rattle.std.proofs.Common.{◌≡◌, ◌∙◌, ap, sym, subst}
use Rattle.rx_rules.proofs.Common.{does}
use Rattle.rx_control.specs.declared.control.Control.{Control}
use Rattle.rx_control.specs.Stands.{StandsFor, AfterLocalStep}
use Rattle.rx_machine.specs.declared.seat.Mover.{Mover}
use Rattle.rx_machine.proofs.steps.local_step.Goals as goal

pub local-requires : goal.local-requires
local-requires c =
    let t = c.requires.0 in
    let b = c.in_ok-begin.ensures t c.requires.1 in
    (t, subst (λ (v : Control). StandsFor c.args.p.now.script v t) (sym (c.deref_mut.ensures.value ∙ ap (λ (v : Mover). v.control.value) b)) c.requires.1)

pub returns : goal.returns
returns c = λ t h.
    let b = c.in_ok-begin.ensures t h in
    let control : c.deref_mut.result.now ≡ c.args.mover.now.control.value = c.deref_mut.ensures.value ∙ ap (λ (v : Mover). v.control.value) b in
    let left = c.in_ok-local.ensures.ok t (subst (λ (v : Control). StandsFor c.args.p.now.script v t) (sym control) h) in
    (subst (λ (v : Control). AfterLocalStep c.args.p.now.script c.local.new.self (does v.vars c.args.here.0 t)) control left, ap (λ (v : Mover). v.batch) b, ap (λ (v : Mover). v.who) b, ap (λ (v : Mover). v.waits) b)
