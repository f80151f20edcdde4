-- What the source gave where nothing was done with it; `pair` says whether it was to be a pair of a script and a trace.
use Rattle.std.specs.Prelude.{◌≡◌, ℕ, ◌+◌, ◌≤◌, Bool, List, length, Option, Some}
use Rattle.std.specs.Io.KnownBytes.{Consumes}
use Rattle.rx_rules.specs.Code.{Block}
use Rattle.rx_syntax.specs.Grammar.{IsScript}
use Rattle.rx_script.specs.Faults.{IsFaultAt}
use Rattle.rx_check.specs.Rules.{verdict}
use Rattle.rx_check.specs.Checked.{Meets}
use Rattle.rx_trace.specs.Reading.{IsBadLine}
use Rattle.rx_answers.specs.Faults.{IsNoPair}
use Rattle.rx_program.specs.Top.{most_bytes, WasRead, WasPair, GaveScript}

-- the source was read, and what it gave as a script is none: the first token that can't go on is at this place
abbrev pub GaveNoScript : Bool → Option (List ℕ) → Option (List ℕ) → ℕ → Type 0
GaveNoScript pair old new at =
    (script : List ℕ) × GaveScript pair old new script × IsFaultAt script at × ((code : Block) → IsScript script code → ⊥)

-- the source was read, and the script that it gave fails this rule at this node
abbrev pub GaveBadScript : Bool → Option (List ℕ) → Option (List ℕ) → ℕ → ℕ → Type 0
GaveBadScript pair old new rule node =
    (script : List ℕ) × (code : Block) × GaveScript pair old new script × IsScript script code × (verdict code ≡ Some (rule, node))

-- the source was read to its end, and its bytes are no pair
abbrev pub GaveNoPair : Option (List ℕ) → Option (List ℕ) → Type 0
GaveNoPair old new = (bytes : List ℕ) × WasRead 16777216 old new bytes × IsNoPair bytes

-- the source was read, and gave a script that meets the rules and a trace whose first bad line is the one of this number
abbrev pub GaveBadTrace : Option (List ℕ) → Option (List ℕ) → ℕ → Type 0
GaveBadTrace old new number =
    (script : List ℕ) × (trace : List ℕ) × WasPair old new script trace × ((code : Block) × IsScript script code × Meets code)
    × IsBadLine trace number

-- the source gave one byte more than it may
abbrev pub GaveTooMuch : Bool → Option (List ℕ) → Option (List ℕ) → Type 0
GaveTooMuch pair old new = (bytes : List ℕ) × Consumes old new bytes × (length bytes ≡ most_bytes pair + 1)

-- the source was read no further than that byte
abbrev pub TookNoMore : Bool → Option (List ℕ) → Option (List ℕ) → Type 0
TookNoMore pair old new = (bytes : List ℕ) × Consumes old new bytes × (length bytes ≤ most_bytes pair + 1)
