-- What is known of the script that bytes are.
use Rattle.std.proofs.Common.{◌≡◌, ℕ, List, Some, None, ap, ◌∙◌, Option}
use Rattle.rx_rules.proofs.Common.{Block}
use Rattle.rx_syntax.specs.Grammar.{IsScript}
use Rattle.rx_script.specs.Faults.{OneScript, NoFault}
use Rattle.rx_check.specs.Rules.{verdict}
use Rattle.rx_script.specs.declared.program.ProgramFault.TheVariants as programs
use Rattle.rx_script.specs.Programs.{ProgramsHaveNoFault}

meets-none : (o : Option (ℕ × ℕ)) (x : ℕ × ℕ) → o ≡ None → o ≡ Some x → ⊥
meets-none o x e f = cc

-- a script is one tree
pub one-code : OneScript → (bytes : List ℕ) (s t : Block) → IsScript bytes s → IsScript bytes t → s ≡ t
one-code one bytes s t (names, p) (other, q) = (one bytes names other s t p q).1

-- a script that meets the rules has no fault
pub no-program-fault : NoFault → OneScript → ProgramsHaveNoFault
no-program-fault none one bytes code (programs.Syntax at) script meets f = f.1 code script
no-program-fault none one bytes code (programs.Bad rule node) script meets (other, s, e) =
    meets-none (verdict code) (rule, node) meets (ap verdict (one-code one bytes code other script s) ∙ e)
no-program-fault none one bytes code programs.NoMemory script meets f = tt
