-- What the worked calls take from a reply.
use Rattle.std.proofs.Common.{◌≡◌, ◌≢◌, [], Option, Some, None, refl, ap, ◌∙◌, sym}
use Rattle.rx_rules.proofs.Common.{ScopeId}
use Rattle.rx_finish.specs.declared.ledger.Caller.{Caller}
use Rattle.rx_ticket.specs.declared.tickets.AnyTicket.{AnyTicket}
use Rattle.rx_ticket.specs.declared.tickets.AnyTicket.TheVariants.{Moving}
use Rattle.rx_ledger.specs.declared.asks.Request.{Request}
use Rattle.rx_ledger.specs.declared.asks.Reply.TheVariants.{Opened, Spawned}
use Rattle.rx_ledger.specs.Answering.{asker}
use Rattle.rx_ledger.specs.Kept.{KeeperView, Applied, IsHistory}
use Rattle.rx_finish.specs.Callers.{MayAskArrive, HasNumbers}
use Rattle.rx_history.specs.declared.asks.Ask.TheVariants.{Arrive}
use Rattle.rx_ledger.specs.declared.asks.Reply.{Reply}
use Rattle.rx_ledger.specs.Calling.{tree_seen}
use Rattle.rx_ledger.proofs.Called.{calls_keep_others}

-- The ticket of the reply is of the caller's task.

asked_by : (q z : Request) (w v : Caller) → asker q.ticket ≡ Some w → q ≡ z → asker z.ticket ≡ Some v → v.task ≡ w.task
asked_by q z w v a e b =
    let same : Some w ≡ Some v = sym a ∙ (ap (λ (x : Request). asker x.ticket) e ∙ b) in
    let it : w ≡ v = cc in
    ap (λ (x : Caller). x.task) (sym it)

pub opened_task : (k k' : KeeperView) (q : Request) (w ticket : Caller) (scope : ScopeId) → asker q.ticket ≡ Some w → Applied k q (Opened ticket scope) k' → ticket.task ≡ w.task
opened_task k k' q w ticket scope e h = ap (λ (x : Caller). x.task) h.answers.ticket_is ∙ asked_by q _ w h.answers.who e h.answers.asked refl

pub spawned_task : (k k' : KeeperView) (q : Request) (w ticket : Caller) (child : Option AnyTicket) → asker q.ticket ≡ Some w → Applied k q (Spawned ticket child) k' → ticket.task ≡ w.task
spawned_task k k' q w ticket child e h = ap (λ (x : Caller). x.task) h.answers.ticket_is ∙ asked_by q _ w h.answers.who e h.answers.asked refl

-- A child has another number.

-- Another task travels on.

pub still_travels : (k k' : KeeperView) (q : Request) (r : Reply) (w c : Caller) → asker q.ticket ≡ Some w → c.task.0 ≢ w.task.0 → IsHistory k' → MayAskArrive (tree_seen k) c → Applied k q r k' → HasNumbers (tree_seen k') → MayAskArrive (tree_seen k') c
still_travels k k' q r w c asks apart hist may h few =
    let p : Request = record { ticket = Moving c; ask = Arrive; batch = []; path = None } in
    (calls_keep_others k k' p q r hist
    (λ v u a b. (let x : c ≡ v = cc in let both : Some w ≡ Some u = sym asks ∙ b in let y : w ≡ u = cc in λ e. apart (ap (λ (z : Caller). z.task.0) x ∙ (e ∙ sym (ap (λ (z : Caller). z.task.0) y)))))
    (may, tt) h few).0
