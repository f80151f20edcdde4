-- What each step of a term leaves, in steps.
use Rattle.std.proofs.Common.{◌≡◌, ℕ, suc, ◌+◌, ◌*◌, ◌≤◌, List, refl, ap, ◌∙◌, arith, max}
use Rattle.std.proofs.Math.Nat.{mul-suc, suc-mul}
use Rattle.rx_rules.proofs.Common.{Vars, PlaceId, TaskId, Block, Then, Stmt, work, work_of, Term, Empty, Local, Answer, answered, granted, child, does, items, items_from, brought, started_by, State, Player, RunsWithoutEntry}
use Rattle.rx_rules.specs.declared.entries.Act.{Act}
use Rattle.rx_rules.specs.declared.events.PlaceEvent.{PlaceEvent}
use Rattle.rx_rules.specs.Code as code
use Rattle.rx_rules.specs.Plays.{Fits}
use Rattle.rx_runs.specs.AnyAnswers.{AsksStore}
use Rattle.rx_runs.specs.Steps.{steps, started_steps, Sinks}
use Rattle.rx_runs.proofs.Weighing.{Weights, Sums, Pays, share, size_items, falls, local_falls, answer_falls, entry_falls, going_falls}

abbrev by_steps : Weights
by_steps = record { statement = λ s. 3 * work_of s; block = λ b. 3 * work b; handler = λ b. 1 + 3 * work b; turns = λ n b. 1 + (n + 3 * (n * work b)); body = 2; held = 1; step = 1; call = 1; entry = 1 }

then_steps : (s : Stmt) (b : Block) → 3 * work (Then s b) ≡ 3 * work_of s + 3 * work b
then_steps s b = let w : work (Then s b) ≡ work_of s + work b = refl in omega (arith, w)

step_sums : Sums by_steps steps
step_sums = record {
  empty = refl;
  raised = λ faults. refl;
  run = λ s x rest. refl;
  repeating = λ b x k times rest. refl;
  trying = λ inside dead_only b x rest. refl;
  finishing = λ inside rest. refl;
  holding = λ rest. refl;
  nothing = (let none : 3 * 0 ≡ 0 = omega arith in none);
  then = then_steps;
}

pub steps_items : (b : Block) (x : List ℕ) (i : ℕ) (rest : Term) → steps (items_from b x i rest) ≡ 3 * work b + steps rest
steps_items b x i rest = size_items by_steps steps step_sums b x i rest

some_work : (s : Stmt) → 1 ≤ work_of s
some_work (code.SetTo name value) = omega arith
some_work _ = omega arith

three : (s : Stmt) → 1 ≤ 3 * work_of s
three s = let one : 1 ≤ work_of s = some_work s in omega (arith, one)

spawned : (b : Block) (x : List ℕ) → (steps (items b x Empty) + 1) + 1 ≤ 3 * (1 + work b)
spawned b x = let c : steps (items b x Empty) ≡ 3 * work b + 0 = steps_items b x 0 Empty in omega (arith, c)

called : (b : Block) (x : List ℕ) → 1 + ((steps (items b x Empty) + 1) + 1) ≤ 3 * (1 + work b)
called b x = let c : steps (items b x Empty) ≡ 3 * work b + 0 = steps_items b x 0 Empty in omega (arith, c)

chosen : (a b : ℕ) → (3 * a + 1 ≤ 3 * (1 + max a b)) × (3 * b + 1 ≤ 3 * (1 + max a b))
chosen a b = (omega arith, omega arith)

repeated : (n w : ℕ) → 1 + (n + 3 * (n * w)) + 1 ≤ 3 * (1 + n * (1 + w))
repeated n w = let one : 1 + w ≡ suc w = omega arith in let p : n * (1 + w) ≡ n * w + n = ap (λ k. n * k) one ∙ mul-suc n w in omega (arith, p)

turned : (n w : ℕ) → 3 * w + (1 + (n + 3 * (n * w))) + 1 ≤ 1 + (suc n + 3 * (suc n * w))
turned n w = let p : suc n * w ≡ n * w + w = suc-mul n w in omega (arith, p)

step_pays : Pays by_steps started_steps
step_pays = record {
  raises = three;
  makes = λ name words. three (code.New name words);
  gets = λ name target index. three (code.Get name target index);
  puts = λ target index value. three (code.Put target index value);
  forgets = λ target. three (code.Forget target);
  counts = λ name. three (code.Census name);
  prints = λ value. three (code.Print value);
  spawns = λ b x. spawned b x;
  spawns_at = λ place b x. spawned b x;
  calls = λ place b x. called b x;
  opens = λ b. (let it : 3 * work b + 2 + 1 ≤ 3 * (1 + work b) = omega arith in it);
  waits = (let it : 1 + 1 ≤ 2 = omega arith in it);
  releases = (let it : 1 ≤ 1 = omega arith in it);
  first = λ test a b. (chosen (work a) (work b)).0;
  other = λ test a b. (chosen (work a) (work b)).1;
  repeats = λ times b. repeated times (work b);
  turns = λ times b. turned times (work b);
  over = λ times b. (let it : 1 ≤ 1 + (times + 3 * (times * work b)) = omega arith in it);
  tries = λ b dead_only h. (let it : 3 * work b + (1 + 3 * work h) + 1 ≤ 3 * (1 + work b + work h) = omega arith in it);
  handles = λ b. (let it : 3 * work b + 1 ≤ 1 + 3 * work b = omega arith in it);
}

-- each step of a term
pub sinks : (vars : Vars) (here : ℕ) (t : Term) → Sinks t (does vars here t)
sinks vars here t = falls by_steps steps started_steps step_sums step_pays vars here t

pub local_sinks : (vars : Vars) (here : ℕ) (t after : Term) (left : Vars) → does vars here t ≡ Local after left → steps after + 1 ≤ steps t
local_sinks vars here t after left is = local_falls by_steps steps started_steps step_sums step_pays vars here t after left is

pub answer_sinks : (vars : Vars) (here : ℕ) (t : Term) (a : Answer) → AsksStore (does vars here t) → steps (answered a t) + 1 ≤ steps t
answer_sinks vars here t a h = answer_falls by_steps steps started_steps step_sums step_pays vars here t a h

pub entry_sinks : (vars : Vars) (here : PlaceId) (t : Term) (act : Act) → Fits here t (does vars here.0 t) act → steps (granted (brought act) t) + share started_steps (child t) (started_by act) + 1 ≤ steps t
entry_sinks vars here t act h = entry_falls by_steps steps started_steps step_sums step_pays vars here t act h

pub going : {heap n : ℕ} {t : TaskId} {here : PlaceId} {p q : Player} {S Z : State} {j k : List PlaceEvent} → RunsWithoutEntry heap n t here p S j q Z k → steps q.term ≤ steps p.term
going goes = going_falls by_steps steps started_steps step_sums step_pays goes
