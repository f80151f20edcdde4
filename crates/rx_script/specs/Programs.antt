-- Why bytes are no program.
use Rattle.std.specs.Prelude.{◌≡◌, ℕ, List, Some}
use Rattle.rx_rules.specs.Code.{Block}
use Rattle.rx_syntax.specs.Grammar.{IsScript}
use Rattle.rx_script.specs.Faults.{IsFaultAt}
use Rattle.rx_check.specs.Rules.{verdict}
use Rattle.rx_check.specs.Checked.{Meets}
use Rattle.rx_script.specs.declared.program.ProgramFault.{ProgramFault}
use Rattle.rx_script.specs.declared.program.ProgramFault.TheVariants as programs

-- why bytes are no program: they are no script, and the first token that can't go on is at this place; or they are a script that
-- fails this rule at this statement
abbrev pub IsProgramFault : ProgramFault → List ℕ → Type 0
IsProgramFault (programs.Syntax at) bytes = IsFaultAt bytes at × ((code : Block) → IsScript bytes code → ⊥)
IsProgramFault (programs.Bad rule node) bytes = (code : Block) × IsScript bytes code × (verdict code ≡ Some (rule, node))
IsProgramFault programs.NoMemory bytes = Unit {0}

-- Where bytes are a program, there is no such fault.

abbrev pub IsWantForProgram : ProgramFault → Type 0
IsWantForProgram programs.NoMemory = Unit {0}
IsWantForProgram _ = ⊥

abbrev pub ProgramsHaveNoFault : Type 0
ProgramsHaveNoFault =
    (bytes : List ℕ) (code : Block) (f : ProgramFault) → IsScript bytes code → Meets code → IsProgramFault f bytes → IsWantForProgram f
