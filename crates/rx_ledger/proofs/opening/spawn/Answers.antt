use Rattle.std.proofs.Common.{◌≡◌, ap, ◌∙◌, subst, refl, List, ℕ, Some}
use Rattle.rx_rules.specs.declared.entries.Act.TheVariants.{Spawn as Does}
use Rattle.rx_rules.proofs.Common.{place_number}
use Rattle.rx_finish.specs.declared.ledger.Caller.{Caller}
use Rattle.rx_ticket.specs.declared.tickets.AnyTicket.TheVariants.{Running}
use Rattle.rx_history.specs.declared.asks.Ask.TheVariants.{Spawn}
use Rattle.rx_chronicle.specs.Requests.{tree_told, Granted, IsRefused, NoWait}
use Rattle.rx_ledger.specs.Inside.Doing.{request_of}
use Rattle.rx_ledger.proofs.Births.{ticket_so}
use Rattle.rx_ledger.proofs.Replying.{appends, did, refused, answered_as}
use Rattle.rx_ledger.proofs.opening.spawn.Goals as goal

pub returns-in-Ok : goal.returns-in-Ok
returns-in-Ok g c =
    let h = c.args.chronicle.now in
    let h' = c.spawn.new.self in
    let who = c.args.ticket in
    let born = c.in-Ok.born in
    let e = c.caller-who.ensures.who in
    let granted = subst (λ (w : Caller). Granted h w (Does c.in-Ok.born.child c.in-Ok.born.scope (place_number w.place) c.args.to c.args.path) c.args.batch h') e c.in-Ok.ensures.answer in
    did h h' _ _ who _ c.args.batch granted
    (record {
      who = who;
      to = c.args.to;
      path = c.args.path;
      scope = born.scope;
      child = born.child;
      asked = refl;
      entry = appends h h' who _ c.args.batch granted;
      ticket_is = refl;
      started_is = c.ticket_for.ensures ∙ ticket_so (tree_told h) born.lost born.child born.scope c.place_of-from.result (place_number who.place) c.args.to c.in-Ok.ensures.lost (c.place_of-from.ensures ∙ ap (λ (w : Caller). place_number w.place) e);
    })

pub returns-in-Err : goal.returns-in-Err
returns-in-Err g c =
    let h = c.args.chronicle.now in
    let h' = c.spawn.new.self in
    let who = c.args.ticket in
    let ask = Spawn c.args.to in
    let no = subst (λ (w : Caller). IsRefused (tree_told h) w NoWait c.in-Err.fault × (h' ≡ h)) c.caller-who.ensures.who c.in-Err.ensures.answer in
    answered_as h h' _ _ c.in-Err.fault _ c.refused.ensures (ap (λ (b : List (List ℕ)). request_of (Running who) ask b (Some c.spawn.new.path)) c.in-Err.ensures.back.0 ∙ ap (λ (p : List ℕ). request_of (Running who) ask c.args.batch (Some p)) c.in-Err.ensures.back.1)
    (refused h h' _ who NoWait c.in-Err.fault refl (λ p w. absurd w.1) no)
