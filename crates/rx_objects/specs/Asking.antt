-- What a request is to the terms of the tasks: the caller's task asks for what its term does.
use Rattle.std.specs.Prelude.{◌≡◌, ℕ, List, [], ◌∷◌, Option, Some, slice_get}
use Rattle.rx_rules.specs.declared.tasks.Where.TheVariants.{At as Stays}
use Rattle.rx_rules.specs.Terms.{Term, Does, Opens, Calls, Spawns, Waits, Releases, Prints, Counts, Done, begins}
use Rattle.rx_rules.specs.Plays.{Cells}
use Rattle.rx_finish.specs.declared.ledger.Caller.{Caller}
use Rattle.rx_history.specs.declared.asks.Ask.{Ask}
use Rattle.rx_history.specs.declared.asks.Ask.TheVariants.{Open as AskOpen, At as AskCall, Spawn as AskSpawn, Arrive as AskArrive}
use Rattle.rx_history.specs.declared.asks.Ask.TheVariants.{Wait as AskWait, Release as AskRelease, End as AskEnd}
use Rattle.rx_history.specs.declared.asks.Ask.TheVariants.{Print as AskPrint, Root as AskRoot, Census as AskCensus}
use Rattle.rx_ledger.specs.declared.asks.Request.{Request}
use Rattle.rx_ledger.specs.Answering.{asker}
use Rattle.rx_parts.specs.Ledger.{Actor, Away}
use Rattle.rx_parts.specs.Growing.{MayRequest}

-- The caller's task is at its place. The caller's number holds it; its term comes by these events to where it does something that
-- suits, and has then begun these statements. No stamp is above n.
pub record Requests (actors : List Actor) (n : ℕ) (by : List ℕ) (events : Cells) (batch : List (List ℕ)) (o : Option Caller)
    (suits : Term → Does → Type 0) : Type 0 where
  pub who : Caller
  pub asks : o ≡ Some who
  pub does : Does
  pub may : MayRequest actors n by who.task events batch does
  pub place : who.place ≡ Stays may.actor.birth.to
  pub suited : suits may.stand.term does

-- The caller's task is on its way. The caller's number holds it; it has made no event and begun no statement.
pub record CallerTravels (actors : List Actor) (by : List ℕ) (events : Cells) (batch : List (List ℕ)) (o : Option Caller) : Type 0 where
  pub who : Caller
  pub asks : o ≡ Some who
  pub actor : Actor
  pub stands : slice_get actors who.task.0 ≡ Some actor
  pub held : by ≡ actor.holder
  pub away : actor.phase ≡ Away
  pub no_events : events ≡ []
  pub no_batch : batch ≡ []

-- what the term does is what is asked, with the path of the statement that it begins
abbrev pub Suits : Ask → Option (List ℕ) → Term → Does → Type 0
Suits AskOpen path t d = (d ≡ Opens) × (begins t ≡ path)
Suits (AskCall to) path t d = (d ≡ Calls to.0) × (begins t ≡ path)
Suits (AskSpawn to) path t d = (d ≡ Spawns to.0) × (begins t ≡ path)
Suits AskArrive path t d = ⊥
Suits (AskWait thrown) path t d = d ≡ Waits thrown
Suits AskRelease path t d = d ≡ Releases
Suits (AskEnd thrown) path t d = d ≡ Done thrown
Suits (AskPrint value) path t d = (d ≡ Prints value) × (begins t ≡ path)
Suits AskCensus path t d = (name : ℕ) × (d ≡ Counts name) × (begins t ≡ path)
Suits AskRoot path t d = ⊥

-- what is asked: an arrival of a task on its way, the root's release, and all else of a task at its place
abbrev pub AskIsMade : List Actor → ℕ → List ℕ → Cells → List (List ℕ) → Option Caller → Option (List ℕ) → Ask → Type 0
AskIsMade actors n by events batch o path AskArrive = CallerTravels actors by events batch o
AskIsMade actors n by events batch o path AskRoot = Unit {0}
AskIsMade actors n by events batch o path ask = Requests actors n by events batch o (Suits ask path)

-- the same of a request
abbrev pub RequestIsMade : List Actor → ℕ → List ℕ → Cells → Request → Type 0
RequestIsMade actors n by events q = AskIsMade actors n by events q.batch (asker q.ticket) q.path q.ask

-- the caller number of the host: that of the first pass which is split from the first one
abbrev pub host_number : List ℕ
host_number = 0 ∷ []

-- the host alone asks for the root's release
abbrev pub HostAsks : List ℕ → Ask → Type 0
HostAsks by AskRoot = by ≡ host_number
HostAsks by ask = Unit {0}
