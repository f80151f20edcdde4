-- What each step of a term costs, in entries.
use Rattle.std.proofs.Common.{◌≡◌, ℕ, suc, ◌+◌, ◌*◌, ◌≤◌, List, refl, ap, ◌∙◌, arith, max}
use Rattle.std.proofs.Math.Nat.{mul-suc, suc-mul}
use Rattle.rx_rules.proofs.Common.{Vars, PlaceId, TaskId, Block, Then, Stmt, work, work_of, Term, Empty, Local, Answer, answered, granted, child, does, items, items_from, brought, started_by, State, Player, RunsWithoutEntry}
use Rattle.rx_rules.specs.declared.entries.Act.{Act}
use Rattle.rx_rules.specs.declared.events.PlaceEvent.{PlaceEvent}
use Rattle.rx_rules.specs.Plays.{Fits}
use Rattle.rx_runs.specs.AnyAnswers.{AsksStore}
use Rattle.rx_runs.specs.Costs.{cost, started_cost, Spends}
use Rattle.rx_runs.proofs.Weighing.{Weights, Sums, Pays, share, size_items, falls, local_falls, answer_falls, entry_falls, going_falls}

abbrev by_cost : Weights
by_cost = record { statement = λ s. 4 * work_of s; block = λ b. 4 * work b; handler = λ b. 4 * work b; turns = λ n b. 4 * (n * work b); body = 2; held = 1; step = 0; call = 0; entry = 1 }

then_cost : (s : Stmt) (b : Block) → 4 * work (Then s b) ≡ 4 * work_of s + 4 * work b
then_cost s b = let w : work (Then s b) ≡ work_of s + work b = refl in omega (arith, w)

cost_sums : Sums by_cost cost
cost_sums = record {
  empty = refl;
  raised = λ faults. refl;
  run = λ s x rest. refl;
  repeating = λ b x k times rest. refl;
  trying = λ inside dead_only b x rest. refl;
  finishing = λ inside rest. refl;
  holding = λ rest. refl;
  nothing = (let none : 4 * 0 ≡ 0 = omega arith in none);
  then = then_cost;
}

pub cost_items : (b : Block) (x : List ℕ) (i : ℕ) (rest : Term) → cost (items_from b x i rest) ≡ 4 * work b + cost rest
cost_items b x i rest = size_items by_cost cost cost_sums b x i rest

free : (n : ℕ) → 0 ≤ n
free n = omega arith

spawned : (b : Block) (x : List ℕ) → (cost (items b x Empty) + 2) + 1 ≤ 4 * (1 + work b)
spawned b x = let c : cost (items b x Empty) ≡ 4 * work b + 0 = cost_items b x 0 Empty in omega (arith, c)

called : (b : Block) (x : List ℕ) → 1 + ((cost (items b x Empty) + 2) + 1) ≤ 4 * (1 + work b)
called b x = let c : cost (items b x Empty) ≡ 4 * work b + 0 = cost_items b x 0 Empty in omega (arith, c)

chosen : (a b : ℕ) → (4 * a + 0 ≤ 4 * (1 + max a b)) × (4 * b + 0 ≤ 4 * (1 + max a b))
chosen a b = (omega arith, omega arith)

repeated : (n w : ℕ) → 4 * (n * w) + 0 ≤ 4 * (1 + n * (1 + w))
repeated n w = let one : 1 + w ≡ suc w = omega arith in let p : n * (1 + w) ≡ n * w + n = ap (λ k. n * k) one ∙ mul-suc n w in omega (arith, p)

turned : (n w : ℕ) → 4 * w + 4 * (n * w) + 0 ≤ 4 * (suc n * w)
turned n w = let p : suc n * w ≡ n * w + w = suc-mul n w in omega (arith, p)

cost_pays : Pays by_cost started_cost
cost_pays = record {
  raises = λ s. free (4 * work_of s);
  makes = λ name words. free (4 * 1);
  gets = λ name target index. free (4 * 1);
  puts = λ target index value. free (4 * 1);
  forgets = λ target. free (4 * 1);
  counts = λ name. (let it : 1 ≤ 4 * 1 = omega arith in it);
  prints = λ value. (let it : 1 ≤ 4 * 1 = omega arith in it);
  spawns = λ b x. spawned b x;
  spawns_at = λ place b x. spawned b x;
  calls = λ place b x. called b x;
  opens = λ b. (let it : 4 * work b + 2 + 1 ≤ 4 * (1 + work b) = omega arith in it);
  waits = (let it : 1 + 1 ≤ 2 = omega arith in it);
  releases = (let it : 1 ≤ 1 = omega arith in it);
  first = λ test a b. (chosen (work a) (work b)).0;
  other = λ test a b. (chosen (work a) (work b)).1;
  repeats = λ times b. repeated times (work b);
  turns = λ times b. turned times (work b);
  over = λ times b. free (4 * (times * work b));
  tries = λ b dead_only h. (let it : 4 * work b + 4 * work h + 0 ≤ 4 * (1 + work b + work h) = omega arith in it);
  handles = λ b. (let it : 4 * work b + 0 ≤ 4 * work b = omega arith in it);
}

-- each step of a term
pub spends : (vars : Vars) (here : ℕ) (t : Term) → Spends t (does vars here t)
spends vars here t = falls by_cost cost started_cost cost_sums cost_pays vars here t

pub local_spends : (vars : Vars) (here : ℕ) (t after : Term) (left : Vars) → does vars here t ≡ Local after left → cost after + 0 ≤ cost t
local_spends vars here t after left is = local_falls by_cost cost started_cost cost_sums cost_pays vars here t after left is

pub answer_spends : (vars : Vars) (here : ℕ) (t : Term) (a : Answer) → AsksStore (does vars here t) → cost (answered a t) + 0 ≤ cost t
answer_spends vars here t a h = answer_falls by_cost cost started_cost cost_sums cost_pays vars here t a h

pub entry_spends : (vars : Vars) (here : PlaceId) (t : Term) (act : Act) → Fits here t (does vars here.0 t) act → cost (granted (brought act) t) + share started_cost (child t) (started_by act) + 1 ≤ cost t
entry_spends vars here t act h = entry_falls by_cost cost started_cost cost_sums cost_pays vars here t act h

pub going_spends : {heap n : ℕ} {t : TaskId} {here : PlaceId} {p q : Player} {S Z : State} {j k : List PlaceEvent} → RunsWithoutEntry heap n t here p S j q Z k → cost q.term ≤ cost p.term
going_spends goes = going_falls by_cost cost started_cost cost_sums cost_pays goes
