-- A wait, a release and an end begin no statement.
use Rattle.std.proofs.Common.{ℕ, refl}
use Rattle.rx_rules.proofs.Common.{Vars, Term, Does, does, begins}
use Rattle.rx_rules.proofs.StepRules.{StepRule, empty, raised, asks_in_try, waits, waits_raised, asks_in_body, releases, rule_of}
use Rattle.rx_tree_laws.specs.TermSteps.{Silent}

silent_by : {vars : Vars} {here : ℕ} {t : Term} {d : Does} → StepRule vars here t d → Silent d (begins t)
silent_by empty = refl
silent_by raised = refl
silent_by waits = refl
silent_by waits_raised = refl
silent_by releases = refl
silent_by (asks_in_try g a s) = silent_by s
silent_by (asks_in_body g a s) = silent_by s
silent_by _ = tt

pub silent_so : (vars : Vars) (here : ℕ) (t : Term) → Silent (does vars here t) (begins t)
silent_so vars here t = silent_by (rule_of vars here t)
