-- A request or a store call is made by the statement that begins.
use Rattle.std.proofs.Common.{◌≡◌, ℕ, List, Option, Some, None, refl, [], ◌∷◌, ◌++◌, ap}
use Rattle.rx_rules.proofs.Common.{Vars, Term, Does, does, begins, begun}
use Rattle.rx_rules.proofs.StepRules.{StepRule, makes, gets, puts, forgets, counts, prints, spawns, spawns_at, calls, opens, asks_in_try, asks_in_body, rule_of}
use Rattle.rx_tree_laws.specs.TermSteps.{BeginsStatement}

begins_by : {vars : Vars} {here : ℕ} {t : Term} {d : Does} → StepRule vars here t d → BeginsStatement d (begins t)
begins_by (makes {x = x}) = (x, refl)
begins_by (gets {x = x} r k home) = (x, refl)
begins_by (puts {x = x} r k z home) = (x, refl)
begins_by (forgets {x = x} r home) = (x, refl)
begins_by (counts {x = x}) = (x, refl)
begins_by (prints {x = x} z) = (x, refl)
begins_by (spawns {x = x}) = (x, refl)
begins_by (spawns_at {x = x} p there) = (x, refl)
begins_by (calls {x = x} p there) = (x, refl)
begins_by (opens {x = x}) = (x, refl)
begins_by (asks_in_try g a s) = begins_by s
begins_by (asks_in_body g a s) = begins_by s
begins_by _ = tt

pub begins-so : (vars : Vars) (here : ℕ) (t : Term) → BeginsStatement (does vars here t) (begins t)
begins-so vars here t = begins_by (rule_of vars here t)

-- the batch with the statement that begins
pub begun_one : (t : Term) (batch : List (List ℕ)) (x : List ℕ) → begins t ≡ Some x → begun t batch ≡ batch ++ x ∷ []
begun_one t batch x e = ap (λ (o : Option (List ℕ)). elim o as (λ _. List (List ℕ)) [ Some y ↦ batch ++ y ∷ [] | None ↦ batch ]) e
