-- What a term asks of the store.
use Rattle.std.proofs.Common.{ℕ, refl}
use Rattle.rx_rules.proofs.Common.{Vars, Term, Does, does, receives}
use Rattle.rx_rules.proofs.StepRules.{StepRule, makes, gets, puts, forgets, asks_in_try, asks_in_body, rule_of}
use Rattle.rx_tree_laws.specs.TermSteps.{CallSo}

call_by : {vars : Vars} {here : ℕ} {t : Term} {d : Does} → StepRule vars here t d → CallSo here d (receives t)
call_by makes = refl
call_by (gets r k home) = (home, refl)
call_by (puts r k z home) = home
call_by (forgets r home) = home
call_by (asks_in_try g a s) = call_by s
call_by (asks_in_body g a s) = call_by s
call_by _ = tt

pub call-so : (vars : Vars) (here : ℕ) (t : Term) → CallSo here (does vars here t) (receives t)
call-so vars here t = call_by (rule_of vars here t)
