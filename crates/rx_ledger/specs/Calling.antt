-- What a keeper's call leaves to its caller and to the other tasks, said of what is seen before and after it.
use Rattle.std.specs.Prelude.{◌≡◌, ◌≢◌, drop, [], ◌∷◌, Some}
use Rattle.rx_rules.specs.declared.tasks.Kind.TheVariants.{Finish, Call}
use Rattle.rx_rules.specs.Tree.{Tree}
use Rattle.rx_rules.specs.Fold.{tree_of}
use Rattle.rx_finish.specs.declared.ledger.Caller.{Caller}
use Rattle.rx_finish.specs.Callers.{HasNumbers}
use Rattle.rx_ticket.specs.declared.tickets.AnyTicket.{AnyTicket}
use Rattle.rx_ledger.specs.declared.asks.Request.{Request}
use Rattle.rx_ledger.specs.declared.asks.Reply.{Reply}
use Rattle.rx_ledger.specs.declared.asks.Reply.TheVariants.{Opened, Called}
use Rattle.rx_ledger.specs.declared.asks.Reply.TheVariants.{Released}
use Rattle.rx_ledger.specs.Asking.{MayApply}
use Rattle.rx_ledger.specs.Answering.{asker}
use Rattle.rx_ledger.specs.Kept.{KeeperView, Applied, IsHistory}
use Rattle.rx_ledger.specs.Holding.{started_in}
use Rattle.rx_ledger.specs.GoingOn.{MayGoOn, MayBegin}
use Rattle.rx_ledger.specs.Owned.{Owned, own_told}

-- the tree that is seen
abbrev pub tree_seen : KeeperView → Tree
tree_seen k = tree_of k.setup.places k.entries

-- the tickets of a reply, and a request that comes back, serve in the tree that is seen after the call
abbrev pub CallsGoOn : Type 0
CallsGoOn =
    (k k' : KeeperView) (q : Request) (r : Reply) → IsHistory k' → MayApply (tree_seen k) q → Applied k q r k' → HasNumbers (tree_seen k')
    → MayGoOn (tree_seen k') r × MayBegin (tree_seen k') r

-- the requests are not of one task
abbrev pub Differ : Request → Request → Type 0
Differ p q = (v w : Caller) → asker p.ticket ≡ Some v → asker q.ticket ≡ Some w → v.task.0 ≢ w.task.0

-- and what another task may ask it may ask after the call
abbrev pub CallsKeepOthers : Type 0
CallsKeepOthers =
    (k k' : KeeperView) (p q : Request) (r : Reply) → IsHistory k' → Differ p q → MayApply (tree_seen k) p → Applied k q r k'
    → HasNumbers (tree_seen k') → MayApply (tree_seen k') p

-- what the caller's scopes are after the reply
abbrev pub owned_by : Reply → Owned → Owned
owned_by (Opened ticket scope) own = (scope, Finish) ∷ own
owned_by (Called ticket callee) own = (ticket.inner, Call) ∷ own
owned_by (Released ticket outcome) own = drop 1 own
owned_by _ own = own

-- those of the caller, as its entries tell them
abbrev pub CallsOwn : Type 0
CallsOwn =
    (k k' : KeeperView) (q : Request) (r : Reply) (who : Caller) → asker q.ticket ≡ Some who → Applied k q r k'
    → own_told k'.entries who.task ≡ owned_by r (own_told k.entries who.task)

-- those of another task stay, as its entries tell them
abbrev pub CallsSpareScopes : Type 0
CallsSpareScopes =
    (k k' : KeeperView) (p q : Request) (r : Reply) (who : Caller) → Differ p q → asker p.ticket ≡ Some who → Applied k q r k'
    → own_told k'.entries who.task ≡ own_told k.entries who.task

-- it is of no task that might ask for something before, and has no scopes
pub record IsNew (k k' : KeeperView) (child : Caller) : Type 0 where
  pub other : (p : Request) (who : Caller) → MayApply (tree_seen k) p → asker p.ticket ≡ Some who → who.task.0 ≢ child.task.0
  pub bare : own_told k'.entries child.task ≡ []

-- so it is with a task that is started
abbrev pub StartedAreNew : Type 0
StartedAreNew =
    (k k' : KeeperView) (q : Request) (r : Reply) (t : AnyTicket) (child : Caller) → IsHistory k' → Applied k q r k' → started_in r ≡ Some t
    → asker t ≡ Some child → IsNew k k' child
