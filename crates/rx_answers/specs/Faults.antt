-- The causes of refusals.
use Rattle.std.specs.Prelude.{ℕ, List}
use Rattle.rx_rules.specs.Code.{Block}
use Rattle.rx_syntax.specs.Grammar.{IsScript}
use Rattle.rx_check.specs.Checked.{Meets}
use Rattle.rx_trace.specs.Reading.{IsBadLine}
use Rattle.rx_answers.specs.Pair.{IsPair}
use Rattle.rx_rules.specs.declared.entries.Entry.{Entry}
use Rattle.rx_rules.specs.declared.events.PlaceEvent.{PlaceEvent}
use Rattle.rx_rules.specs.Run.{Given}
use Rattle.rx_answers.specs.Cases.{IsCase}
use Rattle.rx_script.specs.Programs.{IsProgramFault}
use Rattle.rx_script.specs.declared.program.ProgramFault.TheVariants as programs
use Rattle.rx_answers.specs.declared.case.CaseFault.{CaseFault}
use Rattle.rx_answers.specs.declared.case.CaseFault.TheVariants.{Pair, Syntax, Bad, BadTrace, NoMemory}

-- bytes are no pair
abbrev pub IsNoPair : List ℕ → Type 0
IsNoPair bytes = (script trace : List ℕ) → IsPair bytes script trace → ⊥

-- Why bytes are nothing to judge. Each cause but the first says that the bytes are a pair, and the last that its script meets the
-- rules, so no two of them stand at once. Running out of memory has no cause.
abbrev pub IsCaseFault : CaseFault → List ℕ → Type 0
IsCaseFault Pair bytes = IsNoPair bytes
IsCaseFault (Syntax at) bytes =
    (script : List ℕ) × (trace : List ℕ) × IsPair bytes script trace × IsProgramFault (programs.Syntax at) script
IsCaseFault (Bad rule node) bytes =
    (script : List ℕ) × (trace : List ℕ) × IsPair bytes script trace × IsProgramFault (programs.Bad rule node) script
IsCaseFault (BadTrace number) bytes =
    (script : List ℕ) × (trace : List ℕ) × IsPair bytes script trace × ((code : Block) × IsScript script code × Meets code)
    × IsBadLine trace number
IsCaseFault NoMemory bytes = Unit {0}

-- Where bytes give something to judge, there is no such fault.

abbrev pub IsWantForCase : CaseFault → Type 0
IsWantForCase NoMemory = Unit {0}
IsWantForCase _ = ⊥

abbrev pub CasesHaveNoFault : Type 0
CasesHaveNoFault =
    (bytes : List ℕ) (code : Block) (U : Given) (es : List Entry) (js : List (List PlaceEvent)) (f : CaseFault)
    → IsCase bytes code U es js → IsCaseFault f bytes → IsWantForCase f
