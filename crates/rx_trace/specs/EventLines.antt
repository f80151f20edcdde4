-- The lines of journals and of their events.
use Rattle.std.specs.Prelude.{ℕ, ℤ, ◌+◌, Bool, true, false, List, [], ◌∷◌, ◌++◌, codes}
use Rattle.rx_base.specs.declared.ids.GlobalRef.{GlobalRef}
use Rattle.rx_rules.specs.declared.events.Cell.{Cell}
use Rattle.rx_rules.specs.declared.events.Cell.TheVariants.{Make, MakeFull, Get, Put, Forget, GetRefused, PutRefused, ForgetStale}
use Rattle.rx_rules.specs.declared.events.PlaceEvent.{PlaceEvent}
use Rattle.rx_rules.specs.declared.events.PlaceEvent.TheVariants.{Done, Close}
use Rattle.rx_text.specs.Numbers.{natural_text}
use Rattle.rx_trace.specs.Fields.{natural_field, number_field, path_field, task_field, block_field}

-- a word of a block is read
abbrev pub reading_text : GlobalRef → ℤ → List ℕ
reading_text target index = codes " get" ++ block_field target ++ number_field index

-- a value is written to a word of a block
abbrev pub writing_text : GlobalRef → ℤ → ℤ → List ℕ
writing_text target index value = codes " put" ++ block_field target ++ number_field index ++ number_field value

-- a store call
abbrev pub call_text : Cell → List ℕ
call_text (Make words start generation) = codes " make" ++ natural_field words
call_text (MakeFull words) = codes " make" ++ natural_field words
call_text (Get target index value) = reading_text target index
call_text (GetRefused target index stale) = reading_text target index
call_text (Put target index value) = writing_text target index value
call_text (PutRefused target index value stale) = writing_text target index value
call_text (Forget target) = codes " forget" ++ block_field target
call_text (ForgetStale target) = codes " forget" ++ block_field target

-- why a call was refused: the block was forgotten, or else the index is outside it
abbrev pub cause_text : Bool → List ℕ
cause_text true = codes " stale"
cause_text false = codes " index"

-- the answer of a store call
abbrev pub answer_text : Cell → List ℕ
answer_text (Make words start generation) = codes " at" ++ natural_field start ++ natural_field generation
answer_text (MakeFull words) = codes " full"
answer_text (Get target index value) = codes " is" ++ number_field value
answer_text (GetRefused target index stale) = cause_text stale
answer_text (Put target index value) = codes " ok"
answer_text (PutRefused target index value stale) = cause_text stale
answer_text (Forget target) = codes " ok"
answer_text (ForgetStale target) = codes " stale"

-- what stands after the number
abbrev pub event_text : PlaceEvent → List ℕ
event_text (Done task stamp cell path) = task_field task ++ natural_field stamp ++ call_text cell ++ answer_text cell ++ path_field path
event_text (Close stamp) = natural_field stamp ++ codes " close"

-- the line of an event and its number
abbrev pub event_line : ℕ → PlaceEvent → List ℕ
event_line n e = natural_text n ++ event_text e ++ codes "\n"

-- the lines of events that are numbered from n
abbrev pub event_lines : ℕ → List PlaceEvent → List ℕ
event_lines n [] = []
event_lines n (e ∷ es) = event_line n e ++ event_lines (n + 1) es

-- the line that begins a journal, and those of its events
abbrev pub journal_lines : ℕ → List PlaceEvent → List ℕ
journal_lines p j = codes "journal" ++ natural_field p ++ codes "\n" ++ event_lines 0 j

-- the lines of journals, of the places from p on
abbrev pub journals_lines : ℕ → List (List PlaceEvent) → List ℕ
journals_lines p [] = []
journals_lines p (j ∷ js) = journal_lines p j ++ journals_lines (p + 1) js
