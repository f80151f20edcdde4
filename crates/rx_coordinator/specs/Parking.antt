-- The releases that wait, and what comes of them.
use Rattle.std.specs.Prelude.{◌≡◌, ◌≢◌, ◌⊎◌, ℕ, ◌<◌, ◌==◌, true, false, cond, List, Option, Some, None}
use Rattle.rx_base.specs.declared.ids.ScopeId.{ScopeId}
use Rattle.rx_finish.specs.declared.ledger.Outcome.{Outcome}
use Rattle.rx_rules.specs.declared.entries.Entry.{Entry}
use Rattle.rx_rules.specs.Tree.{Tree, quiet}
use Rattle.rx_rules.specs.Fold.{tree_of}
use Rattle.rx_coordinator.specs.declared.seats.Seat.{Seat}
use Rattle.rx_coordinator.specs.declared.requests.Request.{Request}
use Rattle.rx_coordinator.specs.declared.requests.Request.TheVariants.{Release, Root}
use Rattle.rx_coordinator.specs.declared.requests.Answer.{Answer}
use Rattle.rx_coordinator.specs.declared.requests.Answer.TheVariants.{Bad, NotYet, Released, RootDone}
use Rattle.rx_coordinator.specs.declared.waiters.Waiter.{Waiter}
use Rattle.rx_coordinator.specs.declared.waiters.Waiter.TheVariants.{Task, Root as Host}
use Rattle.rx_coordinator.specs.declared.waiters.Waiters.{Waiters}
use Rattle.rx_coordinator.specs.declared.waiters.Due.{Due}
use Rattle.rx_coordinator.specs.declared.parking.Parking.{Parking}
use Rattle.rx_coordinator.specs.declared.parking.Freed.{Freed}
use Rattle.rx_coordinator.specs.declared.parking.Freed.TheVariants.{One, NoOne, Short}
use Rattle.rx_coordinator.specs.Telling.{seat_told}
use Rattle.rx_coordinator.specs.Waiters.{waiter_at, ScopeIsDue}
use Rattle.rx_coordinator.specs.Stands.{StandsAfter, IsReplyTo, May}

-- who waits for the scope of a number has been started, and waits there in the tree, unless a death has struck it; the host waits for the
-- root
abbrev pub WaiterIsThere : Tree → ℕ → Waiter → Type 0
WaiterIsThere T n (Task t) = (t.0 < T.next_task) × ((w : Seat) → seat_told T t ≡ Some w → (w.waits ≡ true) × (w.who.inner.0 ≡ n))
WaiterIsThere T n Host = n ≡ 0

-- no death has struck it
abbrev pub IsThere : Tree → Waiter → Type 0
IsThere T (Task t) = (w : Seat) × (seat_told T t ≡ Some w)
IsThere T Host = Unit {0}

-- the scope of this number
abbrev pub scope_numbered : ℕ → ScopeId
scope_numbered n = record { 0 = n }

-- it has to wait on: an unstruck task is under the scope
abbrev pub HasToWait : Tree → ℕ → Waiter → Type 0
HasToWait T n who = IsThere T who × (quiet T (scope_numbered n) ≡ false)

-- so it is with everyone who waits, apart from scopes that are due
pub record AllWait (T : Tree) (ws : Waiters) (due : Due) : Type 0 where
  pub there : (n : ℕ) (who : Waiter) → waiter_at ws n ≡ Some who → WaiterIsThere T n who
  pub wait : (n : ℕ) (who : Waiter) → waiter_at ws n ≡ Some who → ScopeIsDue due n ⊎ HasToWait T n who

-- the coordinator stands after these entries, and so do those who wait
pub record Parks (k : Parking) (p : ℕ) (es : List Entry) : Type 0 where
  pub stands : StandsAfter k.core p es
  pub all : AllWait (tree_of p es) k.waiters k.due

-- who asks for a release
abbrev pub waiter_of : Request → Option Waiter
waiter_of (Release t) = Some (Task t)
waiter_of Root = Some Host
waiter_of _ = None

-- who asks waits already
abbrev pub IsParked : Waiters → Option Waiter → Type 0
IsParked ws None = ⊥
IsParked ws (Some who) = (n : ℕ) × (waiter_at ws n ≡ Some who)

-- Who is put to those who wait by an answer: who asked for a release that is not possible yet. Nobody else comes or goes.
abbrev pub Puts : Option Waiter → Answer → Waiters → Waiters → Type 0
Puts None a ws us = (n : ℕ) → waiter_at us n ≡ waiter_at ws n
Puts (Some who) (NotYet place) ws us = (s : ScopeId) × ((n : ℕ) → waiter_at us n ≡ cond (n == s.0) (Some who) (waiter_at ws n))
Puts (Some who) _ ws us = (n : ℕ) → waiter_at us n ≡ waiter_at ws n

-- Who waits already is refused, and nothing changes. Else the answer is the coordinator's.
abbrev pub AskedBeside : ℕ → List Entry → Request → Waiters → Answer → (List Entry → Type 0) → Waiters → Type 0
AskedBeside p es q ws a S us =
    (IsParked ws (waiter_of q) × (a ≡ Bad) × S es × ((n : ℕ) → waiter_at us n ≡ waiter_at ws n))
    ⊎ ((IsParked ws (waiter_of q) → a ≡ Bad) × IsReplyTo p es q a S × Puts (waiter_of q) a ws us)

-- the release for which someone waits, and its answer
abbrev pub request_of : Waiter → Request
request_of (Task t) = Release t
request_of Host = Root

abbrev pub answer_to : Waiter → Outcome → Answer
answer_to (Task t) o = Released o
answer_to Host o = RootDone o

-- Whoever waits for scope n and has to wait on waits on. Who may not ask any more, since a death struck it, waits no more.
abbrev pub PassedBy : Tree → ℕ → Option Waiter → Option Waiter → Type 0
PassedBy T n None now = now ≡ None
PassedBy T n (Some who) now =
    (HasToWait T n who × (now ≡ Some who)) ⊎ ((May T (request_of who) → ⊥) × (now ≡ None))

-- Who waits for scope n is the first of those who wait, by the numbers of their scopes, whose release is possible: it is released and waits
-- no more; those before it were passed by, and those after it wait still.
abbrev pub FreedFrom : ℕ → List Entry → ℕ → Waiter → Outcome → Waiters → (List Entry → Type 0) → Waiters → Type 0
FreedFrom p es n who o ws S us =
    (waiter_at ws n ≡ Some who) × (waiter_at us n ≡ None) × IsReplyTo p es (request_of who) (answer_to who o) S
    × ((m : ℕ) → m < n → PassedBy (tree_of p es) m (waiter_at ws m) (waiter_at us m))
    × ((m : ℕ) → n < m → waiter_at us m ≡ waiter_at ws m)

-- One is released. Or all were passed by. Or memory or numbers ran out for one.
abbrev pub FreedIs : ℕ → List Entry → Freed → Waiters → (List Entry → Type 0) → Waiters → Type 0
FreedIs p es (One s who o) ws S us = FreedFrom p es s.0 who o ws S us
FreedIs p es NoOne ws S us = S es × ((m : ℕ) → PassedBy (tree_of p es) m (waiter_at ws m) (waiter_at us m))
FreedIs p es Short ws S us =
    S es × ((m : ℕ) → (waiter_at us m ≡ waiter_at ws m) ⊎ PassedBy (tree_of p es) m (waiter_at ws m) (waiter_at us m))
