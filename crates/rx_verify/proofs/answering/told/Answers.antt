use Rattle.rx_verify.proofs.Telling.{answers_tells}
use Rattle.rx_verify.proofs.Answered.{get_refused, put_refused}
use Rattle.rx_verify.proofs.answering.told.Goals as goal

pub returns-in-GetRefused : goal.returns-in-GetRefused
returns-in-GetRefused c = λ d o e r.
    let h = (answers_tells d c.args.home c.args.op c.args.cell e).0 c.requires in
    get_refused d c.args.home c.args.cell c.in-GetRefused.target c.in-GetRefused.index c.in-GetRefused.stale c.refusal.result h.0 c.in-GetRefused.is c.refusal.ensures h.1

pub returns-in-PutRefused : goal.returns-in-PutRefused
returns-in-PutRefused c = λ d o e r.
    let h = (answers_tells d c.args.home c.args.op c.args.cell e).0 c.requires in
    put_refused d c.args.home c.args.cell c.in-PutRefused.target c.in-PutRefused.index c.in-PutRefused.value c.in-PutRefused.stale c.refusal-in-PutRefused.result h.0 c.in-PutRefused.is c.refusal-in-PutRefused.ensures h.1
