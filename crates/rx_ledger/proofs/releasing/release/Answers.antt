use Rattle.std.proofs.Common.{◌≡◌, ap, ◌∙◌, subst, refl, List, ℕ, None}
use Rattle.rx_rules.proofs.Common.{ScopeId}
use Rattle.rx_rules.specs.declared.entries.Act.TheVariants.{Release as Does}
use Rattle.rx_finish.specs.declared.ledger.Caller.{Caller}
use Rattle.rx_finish.specs.Calls.{IsHindered}
use Rattle.rx_ticket.specs.declared.tickets.AnyTicket.TheVariants.{Held}
use Rattle.rx_history.specs.declared.asks.Ask.TheVariants.{Release}
use Rattle.rx_chronicle.specs.Told.{parent_told}
use Rattle.rx_chronicle.specs.Requests.{tree_told, Granted, IsRefused}
use Rattle.rx_ledger.specs.Answering.{MustWait}
use Rattle.rx_ledger.specs.Inside.Doing.{request_of}
use Rattle.rx_ledger.proofs.Replying.{appends, did, refused, answered_as}
use Rattle.rx_ledger.proofs.releasing.release.Goals as goal

pub returns-in-Ok : goal.returns-in-Ok
returns-in-Ok g c =
    let h = c.args.chronicle.now in
    let h' = c.release.new.self in
    let who = c.args.ticket in
    let o = c.in-Ok.outcome in
    let e = c.caller-who.ensures.who in
    let granted = subst (λ (w : Caller). Granted h w (Does w.inner o.lost o.masked o.thrown) c.args.batch h') e c.in-Ok.ensures.answer in
    let parent = c.note.ensures.parent ∙ ap (λ (w : Caller). parent_told h.entries w.inner) e in
    did h h' _ _ who _ c.args.batch granted
    (record {
      who = who;
      asked = refl;
      entry = appends h h' who _ c.args.batch granted;
      ticket_is = c.resumed.ensures ∙ ap (λ (s : ScopeId). (let w : Caller = record who { inner = s } in w)) parent;
    })

pub returns-in-Err : goal.returns-in-Err
returns-in-Err g c =
    let h = c.args.chronicle.now in
    let h' = c.release.new.self in
    let who = c.args.ticket in
    let no = subst (λ (w : Caller). IsRefused (tree_told h) w (IsHindered (tree_told h) w.inner) c.in-Err.fault × (h' ≡ h)) c.caller-who.ensures.who c.in-Err.ensures.answer in
    answered_as h h' _ _ c.in-Err.fault _ c.refused.ensures (ap (λ (b : List (List ℕ)). request_of (Held who) Release b None) c.in-Err.ensures.back)
    (refused h h' _ who (IsHindered (tree_told h) who.inner) c.in-Err.fault refl (λ p w. MustWait.task who refl w.0 w.1) no)
