use Rattle.std.proofs.Common.{[], ◌∙◌, sym, ap}
use Rattle.std.proofs.lemmas.Bool.{true≢false}
use Rattle.rx_rules.proofs.Common.{Empty, replaced}
use Rattle.rx_history.specs.Next.{carried}
use Rattle.rx_verify.proofs.AdmitRequests.{granted_none, granted_wait}
use Rattle.rx_verify.proofs.requests.wait.Goals as goal

pub returns-then-not-same_faults : goal.returns-then-not-same_faults
returns-then-not-same_faults c = λ t here faults s is e.
    let list = c.take_faults-faults.ensures.list c.args.p.now.script t here faults s (ap carried is) in
    true≢false (sym (c.same_faults.ensures.1 (list ∙ e)) ∙ c.if-not-same_faults.true)

pub resume-requires : goal.resume-requires
resume-requires c =
    let r = c.requires in
    (_, c.take_faults-faults.ensures.after c.args.p.now.script r.0 r.1 r.2 r.3 (ap carried r.4))

pub returns : goal.returns
returns c = λ t here faults s is.
    let list = c.take_faults-faults.ensures.list c.args.p.now.script t here faults s (ap carried is) in
    let after = c.take_faults-faults.ensures.after c.args.p.now.script t here faults s (ap carried is) in
    let on = c.in_ok-resume.ensures _ after in (
      sym list ∙ c.same_faults.ensures.0 c.if-not-same_faults.false,
      granted_wait c.args.p.now.script c.resume.new.control t (c.take_faults-faults.ensures.wait t here faults [] is) (c.take_faults-faults.ensures.steps t)
          (granted_none c.args.p.now.script c.resume.new.control (replaced t Empty) c.open.result c.open.ensures on.0),
      on.1 ∙ c.take_faults-faults.ensures.vars,
    )
