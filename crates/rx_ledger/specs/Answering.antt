-- What a keeper answers, where no death and no join is due.
use Rattle.std.specs.Prelude.{◌≡◌, ◌⊎◌, ℕ, ℤ, Bool, cond, ◌==◌, List, [], ◌∷◌, ◌++◌, Option, Some, None, is_some}
use Rattle.rx_base.specs.declared.ids.PlaceId.{PlaceId}
use Rattle.rx_base.specs.declared.ids.TaskId.{TaskId}
use Rattle.rx_base.specs.declared.ids.ScopeId.{ScopeId}
use Rattle.rx_base.specs.declared.place_set.PlaceSet.{PlaceSet}
use Rattle.rx_base.specs.declared.values.Fault.{Fault}
use Rattle.rx_rules.specs.declared.tasks.Where.{Where}
use Rattle.rx_rules.specs.declared.tasks.Where.TheVariants.{At, Travel}
use Rattle.rx_rules.specs.declared.entries.Act.{Act}
use Rattle.rx_rules.specs.declared.entries.Act.TheVariants.{Open, At as Calls, Spawn, Arrive, Wait, Release, End, Print, Census}
use Rattle.rx_rules.specs.declared.entries.Entry.{Entry}
use Rattle.rx_rules.specs.declared.entries.Entry.TheVariants.{Step, Root}
use Rattle.rx_rules.specs.Tree.{Tree, death_of, the_root}
use Rattle.rx_rules.specs.Entries.{place_number, AllowedAct, Allowed}
use Rattle.rx_rules.specs.Run.{EndsWithRoot}
use Rattle.rx_finish.specs.declared.ledger.Caller.{Caller}
use Rattle.rx_finish.specs.Calls.{landing, IsUnstruck, WasLost, IsHindered}
use Rattle.rx_ticket.specs.declared.tickets.AnyTicket.{AnyTicket}
use Rattle.rx_ticket.specs.declared.tickets.AnyTicket.TheVariants.{Moving, Running, Held, Host}
use Rattle.rx_history.specs.declared.asks.Ask.{Ask}
use Rattle.rx_history.specs.declared.asks.Ask.TheVariants.{Open as AskOpen, At as AskCall, Spawn as AskSpawn, Arrive as AskArrive}
use Rattle.rx_history.specs.declared.asks.Ask.TheVariants.{Wait as AskWait, Release as AskRelease, End as AskEnd}
use Rattle.rx_history.specs.declared.asks.Ask.TheVariants.{Print as AskPrint, Root as AskRoot, Census as AskCensus}
use Rattle.rx_chronicle.specs.Told.{parent_told}
use Rattle.rx_ledger.specs.declared.asks.Request.{Request}
use Rattle.rx_ledger.specs.declared.asks.Reply.{Reply}
use Rattle.rx_ledger.specs.declared.asks.Reply.TheVariants.{Opened, Called, Spawned, Landed}
use Rattle.rx_ledger.specs.declared.asks.Reply.TheVariants.{Waits, Released, Ended, Printed, Census as Counted}
use Rattle.rx_ledger.specs.declared.asks.Reply.TheVariants.{RootDone, NotYet, Lost, NoMemory}

-- the request is this one
abbrev pub Asks : Request → AnyTicket → Ask → Option (List ℕ) → Type 0
Asks q ticket ask path = q ≡ record { ticket = ticket; ask = ask; batch = q.batch; path = path }

-- a caller that hangs under the scope and has opened none
abbrev pub fresh_caller : TaskId → ScopeId → Where → Caller
fresh_caller task s place = record { task = task; scope = s; inner = s; place = place }

-- the main activity, before its first entry
abbrev pub main_caller : Caller
main_caller = fresh_caller (record { 0 = 0 }) the_root (At (record { 0 = 0 }))

-- one entry is appended, which is allowed
pub record Appends (T : Tree) (es : List Entry) (who : Caller) (act : Act) (batch : List (List ℕ)) (es' : List Entry) : Type 0 where
  pub allowed : AllowedAct T who.task act
  pub added : es' ≡ es ++ Step who.task act batch ∷ []

-- the ticket of a task that is started under the scope at `from` for `to`, unless it is lost
abbrev pub ticket_at : Bool → TaskId → ScopeId → PlaceId → PlaceId → Option AnyTicket
ticket_at lost task s from to =
    cond lost None (Some (cond (from.0 == to.0) (Running (fresh_caller task s (At to))) (Moving (fresh_caller task s (Travel from to)))))

-- it is lost where that place is dead
abbrev pub ticket_of : Tree → TaskId → ScopeId → PlaceId → PlaceId → Option AnyTicket
ticket_of T child s from to = ticket_at (is_some (death_of T to)) child s from to

-- a finish is opened
pub record OpensFinish (T : Tree) (es : List Entry) (q : Request) (ticket : Caller) (scope : ScopeId)
    (es' : List Entry) : Type 0 where
  pub who : Caller
  pub path : List ℕ
  pub asked : Asks q (Running who) AskOpen (Some path)
  pub entry : Appends T es who (Open scope who.inner path) q.batch es'
  pub ticket_is : ticket ≡ record who { inner = scope }

-- an at is opened, and its callee starts
pub record OpensAt (T : Tree) (es : List Entry) (q : Request) (ticket : Caller) (callee : Option AnyTicket)
    (es' : List Entry) : Type 0 where
  pub who : Caller
  pub to : PlaceId
  pub path : List ℕ
  pub scope : ScopeId
  pub child : TaskId
  pub asked : Asks q (Running who) (AskCall to) (Some path)
  pub entry : Appends T es who (Calls (place_number who.place) to scope who.inner child path) q.batch es'
  pub ticket_is : ticket ≡ record who { inner = scope }
  pub callee_is : callee ≡ ticket_of T child scope (place_number who.place) to

-- a task starts
pub record StartsTask (T : Tree) (es : List Entry) (q : Request) (ticket : Caller) (started : Option AnyTicket)
    (es' : List Entry) : Type 0 where
  pub who : Caller
  pub to : PlaceId
  pub path : List ℕ
  pub scope : ScopeId
  pub child : TaskId
  pub asked : Asks q (Running who) (AskSpawn to) (Some path)
  pub entry : Appends T es who (Spawn child scope (place_number who.place) to path) q.batch es'
  pub ticket_is : ticket ≡ who
  pub started_is : started ≡ ticket_of T child scope (place_number who.place) to

-- a task arrives
pub record Lands (T : Tree) (es : List Entry) (q : Request) (ticket : Caller) (es' : List Entry) : Type 0 where
  pub who : Caller
  pub asked : Asks q (Moving who) AskArrive None
  pub entry : Appends T es who (Arrive (landing who.place)) q.batch es'
  pub ticket_is : ticket ≡ record who { place = At (landing who.place) }

-- a task waits at its finish
pub record WaitsThere (T : Tree) (es : List Entry) (q : Request) (ticket : Caller) (es' : List Entry) : Type 0 where
  pub who : Caller
  pub thrown : List Fault
  pub asked : Asks q (Running who) (AskWait thrown) None
  pub entry : Appends T es who (Wait who.inner thrown) q.batch es'
  pub ticket_is : ticket ≡ who

-- a task releases the scope at which it waited, and works in that scope's parent
pub record Releases (T : Tree) (es : List Entry) (q : Request) (ticket : Caller) (lost : PlaceSet) (masked : ℕ) (thrown : List Fault)
    (es' : List Entry) : Type 0 where
  pub who : Caller
  pub asked : Asks q (Held who) AskRelease None
  pub entry : Appends T es who (Release who.inner lost masked thrown) q.batch es'
  pub ticket_is : ticket ≡ record who { inner = parent_told es who.inner }

-- a task ends
pub record Ends (T : Tree) (es : List Entry) (q : Request) (es' : List Entry) : Type 0 where
  pub who : Caller
  pub thrown : List Fault
  pub asked : Asks q (Running who) (AskEnd thrown) None
  pub entry : Appends T es who (End thrown) q.batch es'

-- a task prints
pub record Prints (T : Tree) (es : List Entry) (q : Request) (ticket : Caller) (es' : List Entry) : Type 0 where
  pub who : Caller
  pub value : ℤ
  pub path : List ℕ
  pub asked : Asks q (Running who) (AskPrint value) (Some path)
  pub entry : Appends T es who (Print value path) q.batch es'
  pub ticket_is : ticket ≡ who

-- a task is told the number of places
pub record CountsPlaces (T : Tree) (es : List Entry) (q : Request) (ticket : Caller) (places : ℕ) (es' : List Entry) : Type 0 where
  pub who : Caller
  pub path : List ℕ
  pub asked : Asks q (Running who) AskCensus (Some path)
  pub entry : Appends T es who (Census places path) q.batch es'
  pub ticket_is : ticket ≡ who

-- the host releases the root
pub record FreesRoot (T : Tree) (es es' : List Entry) : Type 0 where
  pub lost : PlaceSet
  pub masked : ℕ
  pub thrown : List Fault
  pub allowed : Allowed T (Root lost masked thrown)
  pub added : es' ≡ es ++ Root lost masked thrown ∷ []

-- who asks, if it is a task
abbrev pub asker : AnyTicket → Option Caller
asker (Moving who) = Some who
asker (Running who) = Some who
asker (Held who) = Some who
asker Host = None

-- the caller, or the host, may not yet release
pub data MustWait (T : Tree) (place : PlaceId) (q : Request) : Type 0 where
  task : (who : Caller) → Asks q (Held who) AskRelease None → IsUnstruck T who → IsHindered T who.inner place → MustWait T place q
  host : Asks q Host AskRoot None → IsHindered T the_root place → MustWait T place q

-- the death of the place, entry `at`, has struck the caller
pub record IsLost (T : Tree) (q : Request) (place : PlaceId) (at : ℕ) : Type 0 where
  pub who : Caller
  pub asks : asker q.ticket ≡ Some who
  pub was_lost : WasLost T who place at

-- the answer r to the request q, where the entries es fold to T; afterwards the entries are es'
abbrev pub Answers : Tree → List Entry → Request → Reply → List Entry → Type 0
Answers T es q (Opened ticket scope) es' = OpensFinish T es q ticket scope es'
Answers T es q (Called ticket callee) es' = OpensAt T es q ticket callee es'
Answers T es q (Spawned ticket child) es' = StartsTask T es q ticket child es'
Answers T es q (Landed ticket) es' = Lands T es q ticket es'
Answers T es q (Waits ticket) es' = WaitsThere T es q ticket es'
Answers T es q (Released ticket outcome) es' = Releases T es q ticket outcome.lost outcome.masked outcome.thrown es'
Answers T es q Ended es' = Ends T es q es'
Answers T es q (Printed ticket) es' = Prints T es q ticket es'
Answers T es q (Counted ticket places) es' = CountsPlaces T es q ticket places es'
Answers T es q RootDone es' = Asks q Host AskRoot None × (((EndsWithRoot es) × (es' ≡ es)) ⊎ FreesRoot T es es')
Answers T es q (NotYet place request) es' = (request ≡ q) × MustWait T place q × (es' ≡ es)
Answers T es q (Lost place at) es' = IsLost T q place at × (es' ≡ es)
Answers T es q (NoMemory request) es' = (request ≡ q) × (es' ≡ es)
