-- What the statuses of the program mean.
use Rattle.std.specs.Prelude.{◌≡◌, ◌⊎◌, ℕ, ◌≤◌, ◌==◌, ◌&&◌, Bool, true, false, cond, if◌then◌else◌, List, [], ◌∷◌, ◌++◌, length}
use Rattle.std.specs.Prelude.{slice_index_or, Option, Some, None}
use Rattle.std.specs.Prelude.{codes}
use Rattle.std.specs.Io.KnownBytes.{Consumes, IsAtEnd}
use Rattle.rx_base.specs.declared.place_set.PlaceSet.{PlaceSet}
use Rattle.rx_base.specs.declared.values.Fault.{Fault}
use Rattle.rx_base.specs.Sets.{members}
use Rattle.rx_text.specs.Numbers.{natural_text}
use Rattle.rx_rules.specs.declared.entries.Entry.{Entry}
use Rattle.rx_rules.specs.declared.entries.Entry.TheVariants.{Root}
use Rattle.rx_rules.specs.declared.events.PlaceEvent.{PlaceEvent}
use Rattle.rx_rules.specs.Code.{Block, work}
use Rattle.rx_rules.specs.Run.{Given, IsRun}
use Rattle.rx_rules.specs.Picked.{IsPicked}
use Rattle.rx_rules.specs.Laws.{NoEarlyRelease, LossExact}
use Rattle.rx_rules.specs.Order.{OrderKept}
use Rattle.rx_syntax.specs.Grammar.{IsScript}
use Rattle.rx_check.specs.Checked.{Meets}
use Rattle.rx_trace.specs.Text.{trace_text}
use Rattle.rx_words.specs.Words.{Asked, Step, Gen, Check, Verify, Span, Live, BadWord, Source, Zeros, Listed, Seeded, source}
use Rattle.rx_machine.specs.Seeds.{seed_word}
use Rattle.rx_monitor.specs.declared.summary.Summary.{Summary}
use Rattle.rx_live.specs.Watching.{IsWatchOf}
use Rattle.rx_monitor.specs.Text.{watch_text}
use Rattle.rx_program.specs.Live.{IsLawful}
use Rattle.rx_answers.specs.Pair.{IsPair}
use Rattle.rx_answers.specs.declared.answers.Question.{Question}
use Rattle.rx_answers.specs.declared.answers.Question.TheVariants as questions
use Rattle.rx_answers.specs.Cases.{IsCase}
use Rattle.rx_answers.specs.Answers.{IsAnswer}
use Rattle.rx_gen.specs.Lines.{lines}
use Rattle.rx_gen.specs.Numbers.{numbers, counts_text}
use Rattle.rx_program.specs.declared.status.Status.{Status}
use Rattle.rx_program.specs.declared.status.Status.TheVariants.{Done, Faulted, Usage, Syntax, Bad, TooLong, ReadFault, WriteFault, NoMemory}
use Rattle.rx_program.specs.declared.status.Status.TheVariants.{Pair, BadTrace}

-- the picks of a source: each 0, a list and then 0, or the words of a seed
abbrev pub picks_of : Source → ℕ → ℕ
picks_of Zeros j = 0
picks_of (Listed ns) j = slice_index_or ns j 0
picks_of (Seeded n) j = seed_word n j

-- nothing was lost and nothing thrown
abbrev pub is_clean : PlaceSet → List Fault → Bool
is_clean lost thrown = (length (members lost) == 0) && (length thrown == 0)

-- the status of a run that was clean or not
abbrev pub status_by : Bool → Status
status_by clean = cond clean Done Faulted

-- the status of a history: Faulted where the root's release has something lost or thrown
abbrev pub status_of : List Entry → Status
status_of [] = Done
status_of (Root lost masked thrown ∷ es) = status_by (is_clean lost thrown)
status_of (e ∷ es) = status_of es

-- The entries and journals are a run of the script under a setup: its picked run. Nothing is released early in it, its losses are
-- exact, and the order of statements is kept; the status is that of its end.
pub record HasRun (code : Block) (U : Given) (source : Source) (entries : List Entry) (journals : List (List PlaceEvent))
    (status : Status) : Type 0 where
  pub picked : IsPicked code U (picks_of source) entries journals
  pub run : IsRun code U entries journals
  pub early : NoEarlyRelease entries
  pub exact : LossExact entries
  pub ordered : OrderKept code entries journals
  pub tells : status ≡ status_of entries

-- the bytes are the trace of such a run
abbrev pub IsTrace : Block → Given → Source → List ℕ → Status → Type 0
IsTrace code U source text status =
    (entries : List Entry) × (journals : List (List PlaceEvent)) × HasRun code U source entries journals status
    × (text ≡ trace_text U entries journals)

-- the bytes are the trace of some whole run of the script under a setup, and the status is that of its end
abbrev pub IsLiveTrace : Block → Given → List ℕ → Status → Type 0
IsLiveTrace code U text status =
    (entries : List Entry) × (journals : List (List PlaceEvent)) × IsLawful code U entries journals × (status ≡ status_of entries)
    × (text ≡ trace_text U entries journals)

-- The bytes are such a trace, and then the lines of n snapshots and one more: each is the summary of as many of the first entries as it
-- says, none is of fewer than the one before, and the last is that of all.
abbrev pub IsWatchedTrace : Block → Given → ℕ → List ℕ → Status → Type 0
IsWatchedTrace code U n text status =
    (entries : List Entry) × (journals : List (List PlaceEvent)) × (seen : List Summary) × IsLawful code U entries journals
    × (status ≡ status_of entries) × IsWatchOf n U.places entries seen × (text ≡ trace_text U entries journals ++ watch_text seen)

-- what `live` writes: the trace, and where it is watched these lines behind it
abbrev pub IsLiveText : Block → Given → Option ℕ → List ℕ → Status → Type 0
IsLiveText code U None text status = IsLiveTrace code U text status
IsLiveText code U (Some n) text status = IsWatchedTrace code U n text status

-- the bytes are the numbers of such a run of the generated script
abbrev pub IsCount : ℕ → Given → Source → List ℕ → Status → Type 0
IsCount size U source text status =
    (entries : List Entry) × (journals : List (List PlaceEvent)) × HasRun (lines U.places size) U source entries journals status
    × (text ≡ counts_text (numbers entries))

-- the line that tells the work of a script
abbrev pub work_line : Block → List ℕ
work_line code = codes "work " ++ natural_text (work code) ++ codes "\n"

-- all was done
abbrev pub IsOver : Status → Type 0
IsOver status = (status ≡ Done) ⊎ (status ≡ Faulted)

-- the source is a pair of a script and a trace, and not a script alone
abbrev pub takes_pair : Asked → Bool
takes_pair Verify = true
takes_pair Span = true
takes_pair _ = false

-- how many bytes a source may give
abbrev pub most_bytes : Bool → ℕ
most_bytes pair = if pair then 16777216 else 65536

-- The source was read to its end, and these are its bytes, no more than so many.
pub record WasRead (most : ℕ) (old new : Option (List ℕ)) (bytes : List ℕ) : Type 0 where
  pub took : Consumes old new bytes
  pub end : IsAtEnd new
  pub short : length bytes ≤ most

-- The source was read to its end, and its bytes are the pair of this script and this trace.
pub record WasPair (old new : Option (List ℕ)) (script trace : List ℕ) : Type 0 where
  pub bytes : List ℕ
  pub read : WasRead 16777216 old new bytes
  pub pair : IsPair bytes script trace

-- the source was read to its end, and gave this script: all its bytes, or where it is a pair the script of that
abbrev pub GaveScript : Bool → Option (List ℕ) → Option (List ℕ) → List ℕ → Type 0
GaveScript true old new script = (trace : List ℕ) × WasPair old new script trace
GaveScript false old new script = WasRead 65536 old new script

-- The source was read to its end, and its bytes are this script, which meets the rules.
pub record WasScript (old new : Option (List ℕ)) (code : Block) : Type 0 where
  pub bytes : List ℕ
  pub read : WasRead 65536 old new bytes
  pub script : IsScript bytes code
  pub meets : Meets code

-- the source was read to its end, and the text is that of the answer to its bytes; the status is Done where the trace is one of a whole
-- run of its script, and else Faulted
abbrev pub IsAnswered : Question → Option (List ℕ) → Option (List ℕ) → List ℕ → Status → Type 0
IsAnswered question old new text status =
    (bytes : List ℕ) × (is_yes : Bool) × WasRead 16777216 old new bytes × IsAnswer question bytes text is_yes × (status ≡ status_by is_yes)

-- What was asked for was done: these are the bytes of the source before and after, the text, and the status. `gen` reads nothing.
abbrev pub IsOutcome : Asked → Option (List ℕ) → Option (List ℕ) → List ℕ → Status → Type 0
IsOutcome (Step U source) old new text status = (code : Block) × WasScript old new code × IsTrace code U source text status
IsOutcome (Gen size U seed) old new text status = (new ≡ old) × IsCount size U (source None seed) text status
IsOutcome Check old new text status = (code : Block) × WasScript old new code × (text ≡ work_line code) × (status ≡ Done)
IsOutcome Verify old new text status = IsAnswered questions.Verify old new text status
IsOutcome Span old new text status = IsAnswered questions.Span old new text status
IsOutcome (Live U workers watch) old new text status = (code : Block) × WasScript old new code × IsLiveText code U watch text status
IsOutcome (BadWord k) old new text status = ⊥

-- These bytes are a script that meets the rules.
pub record IsGoodScript (bytes : List ℕ) : Type 0 where
  pub short : length bytes ≤ 65536
  pub code : Block
  pub script : IsScript bytes code
  pub meets : Meets code

-- These bytes are a pair of a script that meets the rules and the text of some history and journals.
pub record IsGoodPair (bytes : List ℕ) : Type 0 where
  pub short : length bytes ≤ 16777216
  pub code : Block
  pub setup : Given
  pub entries : List Entry
  pub journals : List (List PlaceEvent)
  pub given : IsCase bytes code setup entries journals

-- what is asked for can be done with a source that has these bytes: `gen` needs none, `verify` and `span` need such a pair,
-- and the others a script that meets the rules
abbrev pub CanDo : Asked → Option (List ℕ) → Type 0
CanDo (Step U source) left = (bytes : List ℕ) × (left ≡ Some bytes) × IsGoodScript bytes
CanDo (Gen size U seed) left = Unit {0}
CanDo Check left = (bytes : List ℕ) × (left ≡ Some bytes) × IsGoodScript bytes
CanDo Verify left = (bytes : List ℕ) × (left ≡ Some bytes) × IsGoodPair bytes
CanDo Span left = (bytes : List ℕ) × (left ≡ Some bytes) × IsGoodPair bytes
CanDo (Live U workers watch) left = (bytes : List ℕ) × (left ≡ Some bytes) × IsGoodScript bytes
CanDo (BadWord k) left = ⊥

-- a status of a source from which no text was made
abbrev pub IsUnmade : Status → Type 0
IsUnmade (Syntax at) = Unit {0}
IsUnmade (Bad rule node) = Unit {0}
IsUnmade Pair = Unit {0}
IsUnmade (BadTrace number) = Unit {0}
IsUnmade TooLong = Unit {0}
IsUnmade ReadFault = Unit {0}
IsUnmade NoMemory = Unit {0}
IsUnmade _ = ⊥

-- the status that the program ends with
abbrev pub exit_of : Status → ℕ
exit_of Done = 0
exit_of Faulted = 1
exit_of (Usage word) = 2
exit_of (Syntax at) = 3
exit_of (Bad rule node) = 4
exit_of TooLong = 5
exit_of ReadFault = 6
exit_of WriteFault = 7
exit_of NoMemory = 8
exit_of Pair = 9
exit_of (BadTrace number) = 10

-- the line that the program says on standard error, without its end
abbrev pub line_of : Status → List ℕ
line_of Done = []
line_of Faulted = []
line_of (Usage word) = codes "usage " ++ natural_text word
line_of (Syntax at) = codes "syntax " ++ natural_text at
line_of (Bad rule node) = codes "bad " ++ natural_text rule ++ codes " " ++ natural_text node
line_of TooLong = codes "too long"
line_of ReadFault = codes "read fault"
line_of WriteFault = codes "write fault"
line_of NoMemory = codes "no memory"
line_of Pair = codes "bad pair"
line_of (BadTrace number) = codes "bad line " ++ natural_text number
