use Rattle.std.proofs.Common.{◌≡◌, ◌+◌, Bool, suc, refl, ap, sym, subst, arith}
use Rattle.rx_rules.proofs.Common.{Vars, Does, does}
use Rattle.rx_verify.specs.Inside.Requests.{AfterAct, ActIsAsked}
use Rattle.rx_verify.proofs.AdmitRequests.{request_made, request_missed}
use Rattle.rx_verify.proofs.seat.Seat.go_on.Goals as goal

pub returns-then-not-branch : goal.returns-then-not-branch
returns-then-not-branch c = λ js z left s a.
    let old = c.args.self.now in
    let d = ap (λ (v : Vars). does v old.home.0 z.term) s.vars in
    request_missed c.args.p.now.script js old c.answer.new.control z left c.args.act.now s a
    (subst (λ (b : Bool). AfterAct c.args.p.now.script old.control c.answer.new.control old.home z.term c.args.act.now b) c.if-not-branch.true
    (c.in_ok-answer.ensures z.term old.home s.term (subst (λ (v : Does). ActIsAsked old.home v c.args.act.now) (sym d) a)))

pub returns : goal.returns
returns c = λ js z left s a.
    let old = c.args.self.now in
    let d = ap (λ (v : Vars). does v old.home.0 z.term) s.vars in
    let next : c.args.number + 1 ≡ suc c.args.number = omega arith in
    request_made c.args.p.now.script js c.args.parents.now old _ c.args.number z left c.args.act.now s a
    (subst (λ (b : Bool). AfterAct c.args.p.now.script old.control c.answer.new.control old.home z.term c.args.act.now b) c.if-not-branch.false
    (c.in_ok-answer.ensures z.term old.home s.term (subst (λ (v : Does). ActIsAsked old.home v c.args.act.now) (sym d) a)))
    c.who_after-self.ensures refl refl next
