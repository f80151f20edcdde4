use Rattle.rx_verify.proofs.AdmitRequests.{granted_none}
use Rattle.rx_verify.proofs.requests.pass.Goals as goal

pub returns : goal.returns
returns c = λ t s.
    let on = c.in_ok-resume.ensures t s in
    ((c.begins.ensures t s).0 c.if-not-begins.false, granted_none c.args.p.now.script c.resume.new.control t _ c.open.ensures on.0, on.1)
