-- What the first flaw says of good events.
use Rattle.std.specs.Prelude.{◌≡◌, ◌↔◌, ℕ, ◌<◌, Bool, true, List, length, Option, Some, None, slice_get}
use Rattle.rx_base.specs.declared.ids.TaskId.{TaskId}
use Rattle.rx_rules.specs.declared.entries.Entry.{Entry}
use Rattle.rx_rules.specs.declared.events.Cell.{Cell}
use Rattle.rx_rules.specs.declared.events.PlaceEvent.{PlaceEvent}
use Rattle.rx_rules.specs.declared.events.PlaceEvent.TheVariants.{Done}
use Rattle.rx_rules.specs.Code.{Block}
use Rattle.rx_rules.specs.Plays.{journal_at}
use Rattle.rx_rules.specs.Run.{Given, in_all, EndsWithRoot}
use Rattle.rx_runs.specs.SomeWords.{MakesSome}
use Rattle.rx_verdict.specs.Makes.{Between}
use Rattle.rx_verdict.specs.Marks.{WholePass}
use Rattle.rx_verdict.specs.declared.verdict.Verdict.{Verdict}
use Rattle.rx_verdict.specs.declared.verdict.Verdict.TheVariants.{Run, Entry as AtEntry, End, Event, Open}
use Rattle.rx_verdict.specs.Verdicts.{HasCause, IsGood, GoodBefore, AllGood, AllParts, IsVerdict}
use Rattle.rx_verdict.specs.declared.flaws.EventAt.{EventAt}
use Rattle.rx_verdict.specs.Lawful.{CellAsksSome}
use Rattle.rx_verdict.specs.Marked.{marked}
use Rattle.rx_verdict.specs.Flaws.{IsFirstFlaw}
use Rattle.rx_verdict.specs.Closes.{IsFirstUnclosed}

-- an event of a task is marked exactly where it has its cause, with its stamp between the entries of the task
abbrev pub MarksMade : Block → Given → List Entry → List (List PlaceEvent) → List (List Bool) → Type 0
MarksMade code U es js ms =
    (p e : ℕ) (task : TaskId) (stamp : ℕ) (cell : Cell) (path : List ℕ)
    → slice_get (journal_at js p) e ≡ Some (Done task stamp cell path)
    → HasCause Between code U es js p e ↔ (marked ms p e ≡ true)

-- moreover no marked event asks for a block of no words
pub record MarksTell (code : Block) (U : Given) (es : List Entry) (js : List (List PlaceEvent)) (ms : List (List Bool))
    : Type 0 where
  pub made : MarksMade code U es js ms
  pub some : (p e : ℕ) (task : TaskId) (stamp : ℕ) (cell : Cell) (path : List ℕ)
      → slice_get (journal_at js p) e ≡ Some (Done task stamp cell path) → marked ms p e ≡ true → CellAsksSome cell

-- the second follows where all entries are allowed and made, and each `new` of the script asks for a word or more
abbrev pub MadeMarksTell : Type 0
MadeMarksTell =
    (code : Block) (U : Given) (es : List Entry) (js : List (List PlaceEvent)) (ms : List (List Bool))
    → MakesSome code → WholePass code U es js → MarksMade code U es js ms → MarksTell code U es js ms

-- none where all events are good, or else the first that is not
abbrev pub IsFirstBad : Block → Given → List Entry → List (List PlaceEvent) → Option EventAt → Type 0
IsFirstBad code U es js None = AllGood code U es js
IsFirstBad code U es js (Some at) =
    (at.number < length (journal_at js at.place.0))
    × GoodBefore code U es js at.place.0 at.number
    × (IsGood code U es js at.place.0 at.number → ⊥)

-- where the marks tell what is made, the first event that is not sound is the first that is not good
abbrev pub FlawIsBad : Type 0
FlawIsBad =
    (code : Block) (U : Given) (es : List Entry) (js : List (List PlaceEvent)) (ms : List (List Bool)) (found : Option EventAt)
    → MarksTell code U es js ms → IsFirstFlaw U.heap es js ms found → IsFirstBad code U es js found

-- what the events and the closes say, where the entries are all a part of a run: the first event that is not sound, or else the
-- first place that died and was not closed, or else that there is neither
abbrev pub IsEventsVerdict : ℕ → List Entry → List (List PlaceEvent) → List (List Bool) → Verdict → Type 0
IsEventsVerdict w es js ms (Event p e) = IsFirstFlaw w es js ms (Some (record { place = p; number = e }))
IsEventsVerdict w es js ms (Open p) = IsFirstFlaw w es js ms None × IsFirstUnclosed es js (Some p)
IsEventsVerdict w es js ms Run = IsFirstFlaw w es js ms None × IsFirstUnclosed es js None
IsEventsVerdict w es js ms (AtEntry n) = ⊥
IsEventsVerdict w es js ms End = ⊥

-- where all entries are a part of a run, the last is a release of the root, there is a journal for each place, and the marks tell
-- what is made, that is the verdict
abbrev pub EventsDecide : Type 0
EventsDecide =
    (code : Block) (U : Given) (es : List Entry) (js : List (List PlaceEvent)) (ms : List (List Bool)) (v : Verdict)
    → AllParts code U es js → EndsWithRoot es → length js ≡ in_all U → MarksTell code U es js ms
    → IsEventsVerdict U.heap es js ms v → IsVerdict code U es js v
