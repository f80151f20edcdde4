use Rattle.rx_finish.specs.Callers.{WaitsInside}
use Rattle.rx_ledger.proofs.CallersGoOn.{released_inner}
use Rattle.rx_verify.proofs.Agreeing.{release_refused, refusing, released_decides, scopes_differ, scopes_same}
use Rattle.rx_verify.proofs.granting.releases.Goals as goal

pub returns-then-ne : goal.returns-then-ne
returns-then-ne g c = λ room T stands may act.
    let a = c.args in
    scopes_differ a.who.inner a.scope (c.if-ne.ensures) (released_inner T a.who (WaitsInside T a.who) a.scope a.lost a.masked a.thrown.now may act)

pub returns-in-Ok : goal.returns-in-Ok
returns-in-Ok g c = λ room T stands may.
    let a = c.args in
    let o = c.in-Ok.outcome in
    released_decides c.members_make_the_set.ensures T a.who a.scope o a.lost a.masked a.thrown.now (g.L.FinishLedger.stands c.release.new.self room) c.same_outcome.result c.set_fits-in-Ok.ensures c.set_fits.ensures (scopes_same a.who.inner a.scope (c.if-ne.ensures)) (c.in-Ok.ensures room T stands may) c.same_outcome.ensures.0 c.same_outcome.ensures.1

pub returns-in-Err : goal.returns-in-Err
returns-in-Err g c =
    let a = c.args in
    refusing c.refused.result _ c.in-Err.fault c.refused.ensures (λ r room T stands may.
    release_refused T a.who a.scope a.lost a.masked a.thrown.now (g.L.FinishLedger.stands c.release.new.self room) c.in-Err.fault r (c.in-Err.ensures room T stands may) (scopes_same a.who.inner a.scope (c.if-ne.ensures)))
