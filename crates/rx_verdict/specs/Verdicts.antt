-- The verdict on a history and its journals: the first flaw, or that they are a whole run.
use Rattle.std.specs.Prelude.{◌≡◌, ◌⊎◌, ℕ, suc, ◌+◌, ◌<◌, ◌≤◌, List, [], ◌∷◌, length, take, Option, Some, None, slice_get}
use Rattle.std.specs.List.{filter_map}
use Rattle.rx_rules.specs.declared.entries.Entry.{Entry}
use Rattle.rx_rules.specs.declared.events.PlaceEvent.{PlaceEvent}
use Rattle.rx_rules.specs.declared.events.PlaceEvent.TheVariants.{Done, Close}
use Rattle.rx_rules.specs.Code.{Block}
use Rattle.rx_rules.specs.Terms.{Term, Vars}
use Rattle.rx_rules.specs.Fold.{AllAllowed, opening, births}
use Rattle.rx_rules.specs.Plays.{Starts, cell_of, journal_at, birth_of}
use Rattle.rx_rules.specs.Store.{IsStoreRun, opening_state}
use Rattle.rx_rules.specs.Run.{Given, Proper, in_all, plan_of, PlanKept, EndsWithRoot, NotFalling, death_number, close_in, IsRun}
use Rattle.rx_runs.specs.Rooted.{RootIsLast}
use Rattle.rx_verdict.specs.declared.verdict.Verdict.{Verdict}
use Rattle.rx_verdict.specs.declared.verdict.Verdict.TheVariants.{Run, Entry as AtEntry, End, Event, Open}
use Rattle.rx_verdict.specs.Makes.{Made, TaskMakesEvent, StampRule, AnyStamp, Between}

-- Parts of a run.

-- The first n entries: each is allowed where it stands, none follows a release of the root, the deaths and joins are those that
-- are due, and each task born among them, answered by the events of its place's journal and by its entries among them, makes
-- exactly these entries.
pub record Part (code : Block) (U : Given) (es : List Entry) (js : List (List PlaceEvent)) (n : ℕ) : Type 0 where
  pub allowed : AllAllowed 0 (opening U.places) (take n es)
  pub rooted : RootIsLast (take n es)
  pub plan : PlanKept 0 (plan_of U) (take n es)
  pub starts : Starts
  pub made : Made code U.places (take n es) js starts

-- Good events.

-- the number of events of task t among the first e of a journal
abbrev pub events_before : ℕ → List PlaceEvent → ℕ → ℕ
events_before t j e = length (filter_map (cell_of t) (take e j))

-- task t was born for place p, and event number k of its own is one that its term makes, answered by all entries and events;
-- its stamp keeps the rule
pub record IsMade (rule : StampRule) (code : Block) (U : Given) (es : List Entry) (js : List (List PlaceEvent))
    (p t k : ℕ) : Type 0 where
  pub born : t < 1 + births es
  pub home : (birth_of es t).to.0 ≡ p
  pub starts : Starts
  pub made : Made code U.places es js starts
  pub start : Term × Vars
  pub begins : slice_get starts t ≡ Some start
  pub event : TaskMakesEvent rule starts es js t start k

-- what stands at number e of the journal of place p is an event that a term makes, or a close at the place's death
abbrev pub CauseOf : StampRule → Block → Given → List Entry → List (List PlaceEvent) → ℕ → ℕ → Option PlaceEvent
    → Type 0
CauseOf rule code U es js p e None = ⊥
CauseOf rule code U es js p e (Some (Done task stamp cell path)) =
    IsMade rule code U es js p task.0 (events_before task.0 (journal_at js p) e)
CauseOf rule code U es js p e (Some (Close stamp)) = death_number 0 (record { 0 = p }) es ≡ Some stamp

-- event number e of place p has its cause
abbrev pub HasCause : StampRule → Block → Given → List Entry → List (List PlaceEvent) → ℕ → ℕ → Type 0
HasCause rule code U es js p e = CauseOf rule code U es js p e (slice_get (journal_at js p) e)

-- Event e of place p is good: the journal up to it is the beginning of a run of the store; its stamps do not fall, and where a
-- term makes one of these events, the stamp lies between the entries of its task; and the event itself has its cause.
pub record IsGood (code : Block) (U : Given) (es : List Entry) (js : List (List PlaceEvent)) (p e : ℕ) : Type 0 where
  pub law : IsStoreRun U.heap opening_state (take (suc e) (journal_at js p))
  pub rising : NotFalling 0 (take (suc e) (journal_at js p))
  pub stamps : (f : ℕ) → f ≤ e → HasCause AnyStamp code U es js p f → HasCause Between code U es js p f
  pub cause : HasCause AnyStamp code U es js p e

-- Closes.

-- where a place died, its journal has a close
abbrev pub Shut : Option ℕ → List ℕ → Type 0
Shut None closes = Unit {0}
Shut (Some n) [] = ⊥
Shut (Some n) (c ∷ closes) = Unit {0}

-- place p did not die, or its journal has a close
abbrev pub IsShut : List Entry → List (List PlaceEvent) → ℕ → Type 0
IsShut es js p = Shut (death_number 0 (record { 0 = p }) es) (filter_map close_in (journal_at js p))

-- The verdict.

-- the event q f stands before the event p e: at a lesser place, or earlier at the same
abbrev pub Precedes : ℕ → ℕ → ℕ → ℕ → Type 0
Precedes q f p e = (q < p) ⊎ ((q ≡ p) × (f < e))

-- all events are good that stand before event e of place p
abbrev pub GoodBefore : Block → Given → List Entry → List (List PlaceEvent) → ℕ → ℕ → Type 0
GoodBefore code U es js p e = (q f : ℕ) → f < length (journal_at js q) → Precedes q f p e → IsGood code U es js q f

-- however many of the first entries are a part of a run
abbrev pub AllParts : Block → Given → List Entry → List (List PlaceEvent) → Type 0
AllParts code U es js = (n : ℕ) → n ≤ length es → Part code U es js n

-- all events are good
abbrev pub AllGood : Block → Given → List Entry → List (List PlaceEvent) → Type 0
AllGood code U es js = (p e : ℕ) → e < length (journal_at js p) → IsGood code U es js p e

-- The verdict is the first of these that applies.
-- entry n: the first n + 1 entries are no part of a run, and all that begin them are.
-- end: all entries are a part of a run, and the last is no release of the root.
-- event p e: all entries are a part of a run and the last is a release of the root, and this is the first event that is not good.
-- open p: moreover all events are good, and this is the first place that died and has no close. Places are those of the setup and
-- those that may join; no other can die.
-- run: none of these.
abbrev pub IsVerdict : Block → Given → List Entry → List (List PlaceEvent) → Verdict → Type 0
IsVerdict code U es js (AtEntry n) =
    (n < length es) × ((m : ℕ) → m ≤ n → Part code U es js m) × (Part code U es js (suc n) → ⊥)
IsVerdict code U es js End = AllParts code U es js × (EndsWithRoot es → ⊥)
IsVerdict code U es js (Event p e) =
    AllParts code U es js
    × EndsWithRoot es
    × (e < length (journal_at js p.0))
    × GoodBefore code U es js p.0 e
    × (IsGood code U es js p.0 e → ⊥)
IsVerdict code U es js (Open p) =
    AllParts code U es js
    × EndsWithRoot es
    × AllGood code U es js
    × (p.0 < in_all U)
    × ((q : ℕ) → q < p.0 → IsShut es js q)
    × (IsShut es js p.0 → ⊥)
IsVerdict code U es js Run =
    AllParts code U es js × EndsWithRoot es × AllGood code U es js × ((q : ℕ) → q < in_all U → IsShut es js q)

-- two verdicts on one pair are the same
abbrev pub OneVerdict : Type 0
OneVerdict =
    (code : Block) (U : Given) (es : List Entry) (js : List (List PlaceEvent)) (v w : Verdict) → IsVerdict code U es js v
    → IsVerdict code U es js w → v ≡ w

-- of a whole run the verdict is `run`
abbrev pub RunIsVerdict : Type 0
RunIsVerdict =
    (code : Block) (U : Given) (es : List Entry) (js : List (List PlaceEvent)) → IsRun code U es js → IsVerdict code U es js Run

-- under a proper setup, with one journal for each place, history and journals are a whole run where the verdict is `run`
abbrev pub VerdictIsRun : Type 0
VerdictIsRun =
    (code : Block) (U : Given) (es : List Entry) (js : List (List PlaceEvent)) → Proper U → length js ≡ in_all U
    → IsVerdict code U es js Run → IsRun code U es js
