use Rattle.std.proofs.Common.{◌≡◌, sym, ◌∙◌, ap, subst}
use Rattle.rx_check.specs.Checked.{Checked}
use Rattle.rx_syntax.specs.Shape.{Stands}
use Rattle.rx_live.proofs.Heard.{heard_so}
use Rattle.rx_live.proofs.ending.hear.Goals as goal

pub returns-clause-host : goal.returns-clause-host
returns-clause-host g c =
    let t = c.checked.ensures.0 in
    let is : c.args.p.now ≡ g.N.Naming.ledger.fixed.program = sym c.requires.program ∙ ap (λ l. l.fixed.program) c.requires.ledger in
    let h = heard_so c.meeting_hears.ensures t g.N.Naming.ledger c.args.host.now c.meet.new.pass c.args.note (subst (λ (q : Checked). Stands q.script t) is c.checked.ensures.1) c.requires.host c.requires.note.1
    c.meet.ensures.own c.meet.ensures.met in (h.sees, h.stays)

pub returns-clause-heard : goal.returns-clause-heard
returns-clause-heard g c =
    let t = c.checked.ensures.0 in
    let is : c.args.p.now ≡ g.N.Naming.ledger.fixed.program = sym c.requires.program ∙ ap (λ l. l.fixed.program) c.requires.ledger in
    let h = heard_so c.meeting_hears.ensures t g.N.Naming.ledger c.args.host.now c.meet.new.pass c.args.note (subst (λ (q : Checked). Stands q.script t) is c.checked.ensures.1) c.requires.host c.requires.note.1
    c.meet.ensures.own c.meet.ensures.met in h.heard
