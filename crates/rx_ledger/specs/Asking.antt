-- What a request to a keeper asks of the tree to which its history folds.
use Rattle.std.specs.Prelude.{ℕ, List, Option, Some, None}
use Rattle.rx_rules.specs.Tree.{Tree}
use Rattle.rx_finish.specs.declared.ledger.Caller.{Caller}
use Rattle.rx_finish.specs.Callers.{MayAskMoving, MayAskTo, MayAskArrive, MayAskWait, MayAskRelease, MayAskEnd}
use Rattle.rx_ticket.specs.declared.tickets.AnyTicket.{AnyTicket}
use Rattle.rx_ticket.specs.declared.tickets.AnyTicket.TheVariants.{Moving, Running, Held, Host}
use Rattle.rx_history.specs.declared.asks.Ask.{Ask}
use Rattle.rx_history.specs.declared.asks.Ask.TheVariants.{Open, At as Calls, Spawn, Arrive, Wait, Release, End, Print, Root, Census}
use Rattle.rx_ledger.specs.declared.asks.Request.{Request}

-- the ticket is of a task that travels, and P holds of the caller
abbrev pub IsTravelling : AnyTicket → (Caller → Type 0) → Type 0
IsTravelling (Moving who) P = P who
IsTravelling (Running who) P = ⊥
IsTravelling (Held who) P = ⊥
IsTravelling Host P = ⊥

-- of one that is at a place and does not wait
abbrev pub IsRunning : AnyTicket → (Caller → Type 0) → Type 0
IsRunning (Moving who) P = ⊥
IsRunning (Running who) P = P who
IsRunning (Held who) P = ⊥
IsRunning Host P = ⊥

-- of one that waits
abbrev pub IsHeld : AnyTicket → (Caller → Type 0) → Type 0
IsHeld (Moving who) P = ⊥
IsHeld (Running who) P = ⊥
IsHeld (Held who) P = P who
IsHeld Host P = ⊥

-- the host asks
abbrev pub IsHost : AnyTicket → Type 0
IsHost Host = Unit {0}
IsHost _ = ⊥

-- there is a path
abbrev pub HasPath : Option (List ℕ) → Type 0
HasPath (Some x) = Unit {0}
HasPath None = ⊥

-- there is none
abbrev pub NoPath : Option (List ℕ) → Type 0
NoPath (Some x) = ⊥
NoPath None = Unit {0}

-- The ticket's state suits what is asked, a path comes with what has one, and the ledger may be asked of the ticket's caller. The
-- host may always ask for the root's release.
abbrev pub MayAskFor : Tree → AnyTicket → Option (List ℕ) → Ask → Type 0
MayAskFor T ticket path Open = IsRunning ticket (MayAskMoving T) × HasPath path
MayAskFor T ticket path (Calls to) = IsRunning ticket (λ who. MayAskTo T who to) × HasPath path
MayAskFor T ticket path (Spawn to) = IsRunning ticket (λ who. MayAskTo T who to) × HasPath path
MayAskFor T ticket path Arrive = IsTravelling ticket (MayAskArrive T) × NoPath path
MayAskFor T ticket path (Wait thrown) = IsRunning ticket (MayAskWait T) × NoPath path
MayAskFor T ticket path Release = IsHeld ticket (MayAskRelease T) × NoPath path
MayAskFor T ticket path (End thrown) = IsRunning ticket (MayAskEnd T) × NoPath path
MayAskFor T ticket path (Print value) = IsRunning ticket (MayAskMoving T) × HasPath path
MayAskFor T ticket path Census = IsRunning ticket (MayAskMoving T) × HasPath path
MayAskFor T ticket path Root = IsHost ticket × NoPath path

-- the same of a request
abbrev pub MayApply : Tree → Request → Type 0
MayApply T q = MayAskFor T q.ticket q.path q.ask
