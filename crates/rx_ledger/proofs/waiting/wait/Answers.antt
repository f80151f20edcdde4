use Rattle.std.proofs.Common.{◌≡◌, ap, ◌∙◌, subst, refl, List, ℕ, None}
use Rattle.rx_rules.proofs.Common.{Fault}
use Rattle.rx_rules.specs.declared.entries.Act.TheVariants.{Wait as Does}
use Rattle.rx_finish.specs.declared.ledger.Caller.{Caller}
use Rattle.rx_ticket.specs.declared.tickets.AnyTicket.TheVariants.{Running}
use Rattle.rx_history.specs.declared.asks.Ask.TheVariants.{Wait}
use Rattle.rx_chronicle.specs.Requests.{tree_told, Granted, IsRefused, NoWait}
use Rattle.rx_ledger.specs.Inside.Doing.{request_of}
use Rattle.rx_ledger.proofs.Replying.{appends, did, refused, answered_as}
use Rattle.rx_ledger.proofs.waiting.wait.Goals as goal

pub returns-in-Ok : goal.returns-in-Ok
returns-in-Ok g c =
    let h = c.args.chronicle.now in
    let h' = c.wait.new.self in
    let who = c.args.ticket in
    let granted = subst (λ (w : Caller). Granted h w (Does w.inner c.args.thrown) c.args.batch h') c.caller.ensures.who c.in-Ok.ensures.answer in
    did h h' _ _ who _ c.args.batch granted (record { who = who; thrown = c.args.thrown; asked = refl; entry = appends h h' who _ c.args.batch granted; ticket_is = c.waits.ensures })

pub returns-in-Err : goal.returns-in-Err
returns-in-Err g c =
    let h = c.args.chronicle.now in
    let h' = c.wait.new.self in
    let who = c.args.ticket in
    let no = subst (λ (w : Caller). IsRefused (tree_told h) w NoWait c.in-Err.fault × (h' ≡ h)) c.caller.ensures.who c.in-Err.ensures.answer in
    answered_as h h' _ _ c.in-Err.fault _ c.refused.ensures (ap (λ (b : List (List ℕ)). request_of (Running who) (Wait c.in-Err.thrown) b None) c.in-Err.ensures.back.1 ∙ ap (λ (fs : List Fault). request_of (Running who) (Wait fs) c.args.batch None) c.in-Err.ensures.back.0)
    (refused h h' _ who NoWait c.in-Err.fault refl (λ p w. absurd w.1) no)
