use Rattle.std.proofs.Common.{ap, sym, ◌∙◌, subst}
use Rattle.rx_rules.proofs.Common.{Term, granted}
use Rattle.rx_control.specs.declared.control.Control.{Control}
use Rattle.rx_control.specs.Stands.{StandsFor}
use Rattle.rx_ledger.proofs.Keepers.{ok_holds}
use Rattle.rx_activities.proofs.hand.Hand.go_on.Goals as goal

pub resume-requires : goal.resume-requires
resume-requires g c =
    let w = c.requires.granted in
    (w.term, subst (λ (x : Control). StandsFor c.args.p.now.script x w.term) (sym c.as_mut.ensures.value) w.stands)

pub returns : goal.returns
returns g c =
    let fine = sym c.if-is_err.ensures.value in
    let w = c.keep.ensures in
    c.requires.granted.goes c.resume.new.self c.keep.new.self (subst (λ (x : Control). (t : Term) → StandsFor c.args.p.now.script x t → StandsFor c.args.p.now.script c.resume.new.self (granted c.args.faults t)) c.as_mut.ensures.value (ok_holds c.resume.result _ fine c.resume.ensures.ok))
    (ok_holds c.resume.result _ fine c.resume.ensures.vars ∙ ap (λ (x : Control). x.vars) c.as_mut.ensures.value)
    (record {
      control = w.control;
      place_is = w.place_is;
      word = w.word ∙ c.in-Ok.ensures.0;
      view = w.view ∙ c.in-Ok.ensures.1;
      seat_is = w.seat_is;
      ticket_is = w.ticket_is;
      batch_is = w.batch_is ∙ c.open.ensures;
      told = w.told;
      unmade = w.unmade;
    })
