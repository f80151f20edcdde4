use Rattle.std.proofs.Common.{◌∙◌, ap, sym, subst}
use Rattle.rx_control.specs.declared.control.Control.{Control}
use Rattle.rx_control.specs.Stands.{StandsFor}
use Rattle.rx_machine.proofs.seat.prepare.Goals as goal

pub returns-clause-seed : goal.returns-clause-seed
returns-clause-seed c = λ t h x b.
    let r = c.in_ok-seed.ensures t (subst (λ (v : Control). StandsFor c.args.p.now.script v t) (sym c.deref.ensures) h) x b in
    (r.0, r.1 ∙ ap (λ (v : Control). v.vars) c.deref.ensures)
