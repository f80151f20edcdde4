-- What is known of the jobs of a queue.
use Rattle.std.specs.Prelude.{◌≡◌, ◌≢◌, ◌<◌, ℕ, Bool, true, false, List, [], ◌∷◌, ◌++◌, Option, Some, None}
use Rattle.rx_base.specs.declared.ids.ScopeId.{ScopeId}
use Rattle.rx_rules.specs.declared.tasks.Kind.TheVariants.{Finish}
use Rattle.rx_rules.specs.Tree.{Tree}
use Rattle.rx_tree_laws.specs.Sound.{Each}
use Rattle.rx_finish.specs.declared.ledger.Caller.{Caller}
use Rattle.rx_finish.specs.Callers.{MayAskMoving, MayAskArrive, MayAskRelease}
use Rattle.rx_ticket.specs.declared.tickets.AnyTicket.{AnyTicket}
use Rattle.rx_ticket.specs.declared.tickets.AnyTicket.TheVariants.{Moving, Running, Held, Host}
use Rattle.rx_history.specs.declared.asks.Ask.{Ask}
use Rattle.rx_history.specs.declared.asks.Ask.TheVariants.{Open, Spawn, Arrive, Wait, Release, End, Print, Root, Census}
use Rattle.rx_ledger.specs.declared.asks.Reply.{Reply}
use Rattle.rx_ledger.specs.declared.asks.Reply.TheVariants.{Opened}
use Rattle.rx_ledger.specs.declared.asks.Reply.TheVariants.{Released}
use Rattle.rx_ledger.specs.Answering.{asker}
use Rattle.rx_ledger.specs.Asking.{HasPath, NoPath}
use Rattle.rx_ledger.specs.Calling.{tree_seen}
use Rattle.rx_ledger.specs.Holding.{asking_in, started_in}
use Rattle.rx_ledger.specs.Kept.{KeeperView}
use Rattle.rx_ledger.specs.Owned.{Owned, own_told}
use Rattle.tasks_by_hand.specs.declared.Job.{Job}

-- a task that travels may arrive, one that is at a place may go on, one that waits may ask for its release
abbrev pub JobTicketServes : Tree → AnyTicket → Type 0
JobTicketServes T (Moving who) = MayAskArrive T who
JobTicketServes T (Running who) = MayAskMoving T who
JobTicketServes T (Held who) = MayAskRelease T who
JobTicketServes T Host = Unit {0}

-- the scopes are one finish, or none
abbrev pub Owns : Bool → Owned → Type 0
Owns true own = (s : ScopeId) × (own ≡ (s, Finish) ∷ [])
Owns false own = own ≡ []

-- so it is with the scopes of the ticket's task, as the entries tell them
abbrev pub OwnsSo : KeeperView → Bool → AnyTicket → Type 0
OwnsSo k inside t = (who : Caller) → asker t ≡ Some who → Owns inside (own_told k.entries who.task)

-- the job's ticket is good
pub record IsGoodJob (k : KeeperView) (j : Job) : Type 0 where
  pub serves : JobTicketServes (tree_seen k) j.task
  pub owns : OwnsSo k j.inside j.task

-- the jobs are not of one task
abbrev pub Apart : Job → Job → Type 0
Apart i j = (v w : Caller) → asker i.task ≡ Some v → asker j.task ≡ Some w → v.task.0 ≢ w.task.0

-- each job's ticket is good, and no two are of one task
abbrev pub AllGoodJobs : KeeperView → List Job → Type 0
AllGoodJobs k [] = Unit {0}
AllGoodJobs k (j ∷ js) = IsGoodJob k j × Each (Apart j) js × AllGoodJobs k js

-- there are three places, and the jobs fit
pub record IsReady (k : KeeperView) (js : List Job) : Type 0 where
  pub places : k.setup.places ≡ 3
  pub fit : AllGoodJobs k js

-- what a job asks for suits its ticket
abbrev pub SuitsRunning : Bool → Ask → Option (List ℕ) → Type 0
SuitsRunning inside Open path = (inside ≡ false) × HasPath path
SuitsRunning inside (Spawn to) path = (to.0 < 3) × HasPath path
SuitsRunning inside (Wait thrown) path = (inside ≡ true) × NoPath path
SuitsRunning inside (End thrown) path = (inside ≡ false) × NoPath path
SuitsRunning inside (Print value) path = HasPath path
SuitsRunning inside Census path = HasPath path
SuitsRunning inside _ path = ⊥

abbrev pub Suits : AnyTicket → Bool → Ask → Option (List ℕ) → Type 0
Suits (Moving who) inside ask path = (ask ≡ Arrive) × (path ≡ None)
Suits (Running who) inside ask path = SuitsRunning inside ask path
Suits (Held who) inside ask path = (ask ≡ Release) × (path ≡ None)
Suits Host inside ask path = (ask ≡ Root) × (path ≡ None)

-- whether the caller is inside a finish after a reply
abbrev pub inside_after : Reply → Bool → Bool
inside_after (Opened ticket scope) inside = true
inside_after (Released ticket outcome) inside = false
inside_after _ inside = inside

-- the job with a ticket, where there is one
abbrev pub jobs_of : Option AnyTicket → Bool → ℕ → List Job
jobs_of (Some t) inside left = record { task = t; inside = inside; left = left } ∷ []
jobs_of None inside left = []

-- the queue after a reply: the job that asked is put at the end, and then the one that was started
abbrev pub jobs_after : List Job → Reply → Bool → ℕ → List Job
jobs_after js r inside left = (js ++ jobs_of (asking_in r) (inside_after r inside) left) ++ jobs_of (started_in r) false 0
