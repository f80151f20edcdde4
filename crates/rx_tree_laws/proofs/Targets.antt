-- A task is started for a place that exists.
use Rattle.std.proofs.Common.{ℕ, ◌<◌, ◌≤◌, arith}
use Rattle.rx_rules.proofs.Common.{Vars, Term, Does, does}
use Rattle.rx_rules.proofs.StepRules.{StepRule, spawns, spawns_at, calls, asks_in_try, asks_in_body, rule_of}
use Rattle.rx_tree_laws.specs.TermSteps.{Targets}

targets_by : {vars : Vars} {here : ℕ} {t : Term} {d : Does} → StepRule vars here t d → (places : ℕ) → here < places → vars.places ≤ places → Targets places d
targets_by spawns places h low = h
targets_by (spawns_at p there) places h low = omega (arith, there, low)
targets_by (calls p there) places h low = omega (arith, there, low)
targets_by (asks_in_try g a s) places h low = targets_by s places h low
targets_by (asks_in_body g a s) places h low = targets_by s places h low
targets_by _ places h low = tt

pub targets-exist : (vars : Vars) (here places : ℕ) (t : Term) → here < places → vars.places ≤ places → Targets places (does vars here t)
targets-exist vars here places t h low = targets_by (rule_of vars here t) places h low
