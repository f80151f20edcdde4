use Rattle.std.proofs.Common.{◌≡◌, ap, ◌∙◌, subst, refl, List, ℕ, Some}
use Rattle.rx_rules.specs.declared.entries.Act.TheVariants.{Open as Does}
use Rattle.rx_finish.specs.declared.ledger.Caller.{Caller}
use Rattle.rx_ticket.specs.declared.tickets.AnyTicket.TheVariants.{Running}
use Rattle.rx_history.specs.declared.asks.Ask.TheVariants.{Open}
use Rattle.rx_chronicle.specs.Requests.{tree_told, Granted, IsRefused, NoWait}
use Rattle.rx_ledger.specs.Inside.Doing.{request_of}
use Rattle.rx_ledger.proofs.Replying.{appends, did, refused, answered_as}
use Rattle.rx_ledger.proofs.opening.open.Goals as goal

pub returns-in-Ok : goal.returns-in-Ok
returns-in-Ok g c =
    let h = c.args.chronicle.now in
    let h' = c.open_finish.new.self in
    let who = c.args.ticket in
    let granted = subst (λ (w : Caller). Granted h w (Does c.in-Ok.scope w.inner c.args.path) c.args.batch h') c.caller.ensures.who c.in-Ok.ensures.answer in
    did h h' _ _ who _ c.args.batch granted (record { who = who; path = c.args.path; asked = refl; entry = appends h h' who _ c.args.batch granted; ticket_is = c.opened.ensures })

pub returns-in-Err : goal.returns-in-Err
returns-in-Err g c =
    let h = c.args.chronicle.now in
    let h' = c.open_finish.new.self in
    let who = c.args.ticket in
    let no = subst (λ (w : Caller). IsRefused (tree_told h) w NoWait c.in-Err.fault × (h' ≡ h)) c.caller.ensures.who c.in-Err.ensures.answer in
    answered_as h h' _ _ c.in-Err.fault _ c.refused.ensures (ap (λ (b : List (List ℕ)). request_of (Running who) Open b (Some c.open_finish.new.path)) c.in-Err.ensures.back.0 ∙ ap (λ (p : List ℕ). request_of (Running who) Open c.args.batch (Some p)) c.in-Err.ensures.back.1)
    (refused h h' _ who NoWait c.in-Err.fault refl (λ p w. absurd w.1) no)
