-- What a term does next, by rules: one rule for each case. What holds by each rule holds of each step.
use Rattle.std.proofs.Common.{◌≡◌, ℕ, suc, ◌<◌, ℤ, pos, negsuc, Bool, true, false, cond, ◌==◌, nat_le, nat_lt, List, [], Option, Some, None, Ok, Err, refl}
use Rattle.std.proofs.lemmas.Bool.{cond_both, eqb-true, ltb-true, leb-false}
use Rattle.rx_rules.proofs.Common.{GlobalRef, Fault, WrongPlace, Thrown, Overflow, NoPlace, Number, Expr, Block, Stmt, SetTo, New, Get, Put, Forget, Census, Print, Throw, Async, AtAsync, At, Finish, If, Repeat, Try, Vars, bound, value_of, ref_in, eval, target_of, is_zero, catches, Term, Empty, Run, Raise, Turns, Trying, Body, Held, items, at, raise, Does, Local, Makes, Gets, Puts, Forgets, Opens, Calls, Spawns, Waits, Releases, Prints, Counts, Done, with_number, with_place, on_ref, within, stmt_does, trying_does, body_does, does, granted}

-- the step asks the store or the ledger
abbrev pub IsAsking : Does → Type 0
IsAsking (Local left vars) = ⊥
IsAsking (Done faults) = ⊥
IsAsking _ = Unit {0}

-- the term is neither empty nor raised
abbrev pub GoesOn : Term → Type 0
GoesOn Empty = ⊥
GoesOn (Raise faults) = ⊥
GoesOn _ = Unit {0}

-- the rule by which a term, at a place and with these variables, does what it does next
pub data StepRule (vars : Vars) (here : ℕ) : Term → Does → Type 0 where
  empty : StepRule vars here Empty (Done [])
  raised : {faults : List Fault} → StepRule vars here (Raise faults) (Done faults)
  -- a statement raises a fault, or does what it is for
  raises : {stmt : Stmt} {x : List ℕ} {rest : Term} (fault : Fault) → StepRule vars here (Run stmt x rest) (Local (raise fault) vars)
  sets : {name : ℕ} {value : Expr} {x : List ℕ} {rest : Term} (z : ℤ)
      → StepRule vars here (Run (SetTo name value) x rest) (Local rest (bound name (Number z) vars))
  makes : {name words : ℕ} {x : List ℕ} {rest : Term} → StepRule vars here (Run (New name words) x rest) (Makes name words)
  gets : {name target : ℕ} {index : Expr} {x : List ℕ} {rest : Term} (r : GlobalRef) (k : ℤ) → r.home.0 ≡ here
      → StepRule vars here (Run (Get name target index) x rest) (Gets name r k)
  puts : {target : ℕ} {index value : Expr} {x : List ℕ} {rest : Term} (r : GlobalRef) (k z : ℤ) → r.home.0 ≡ here
      → StepRule vars here (Run (Put target index value) x rest) (Puts r k z)
  forgets : {target : ℕ} {x : List ℕ} {rest : Term} (r : GlobalRef) → r.home.0 ≡ here
      → StepRule vars here (Run (Forget target) x rest) (Forgets r)
  counts : {name : ℕ} {x : List ℕ} {rest : Term} → StepRule vars here (Run (Census name) x rest) (Counts name)
  prints : {value : Expr} {x : List ℕ} {rest : Term} (z : ℤ) → StepRule vars here (Run (Print value) x rest) (Prints z)
  spawns : {body : Block} {x : List ℕ} {rest : Term} → StepRule vars here (Run (Async body) x rest) (Spawns here)
  spawns_at : {place : Expr} {body : Block} {x : List ℕ} {rest : Term} (p : ℕ) → p < vars.places
      → StepRule vars here (Run (AtAsync place body) x rest) (Spawns p)
  calls : {place : Expr} {body : Block} {x : List ℕ} {rest : Term} (p : ℕ) → p < vars.places
      → StepRule vars here (Run (At place body) x rest) (Calls p)
  opens : {body : Block} {x : List ℕ} {rest : Term} → StepRule vars here (Run (Finish body) x rest) Opens
  takes_first : {test : Expr} {first other : Block} {x : List ℕ} {rest : Term}
      → StepRule vars here (Run (If test first other) x rest) (Local (items first (at x 0) rest) vars)
  takes_other : {test : Expr} {first other : Block} {x : List ℕ} {rest : Term}
      → StepRule vars here (Run (If test first other) x rest) (Local (items other (at x 1) rest) vars)
  repeats : {times : ℕ} {body : Block} {x : List ℕ} {rest : Term}
      → StepRule vars here (Run (Repeat times body) x rest) (Local (Turns body x 0 times rest) vars)
  tries : {body : Block} {dead_only : Bool} {handler : Block} {x : List ℕ} {rest : Term}
      → StepRule vars here (Run (Try body dead_only handler) x rest) (Local (Trying (items body (at x 0) Empty) dead_only handler x rest) vars)
  -- the turns of a repeat are over, or one more begins
  turns_over : {body : Block} {x : List ℕ} {k times : ℕ} {rest : Term} → StepRule vars here (Turns body x k times rest) (Local rest vars)
  turns_on : {body : Block} {x : List ℕ} {k times : ℕ} {rest : Term} → k < times
      → StepRule vars here (Turns body x k times rest) (Local (items body (at x k) (Turns body x (suc k) times rest)) vars)
  -- a try is over, catches what is raised or does not, or goes on
  try_over : {dead_only : Bool} {handler : Block} {x : List ℕ} {rest : Term}
      → StepRule vars here (Trying Empty dead_only handler x rest) (Local rest vars)
  caught : {faults : List Fault} {dead_only : Bool} {handler : Block} {x : List ℕ} {rest : Term}
      → StepRule vars here (Trying (Raise faults) dead_only handler x rest) (Local (items handler (at x 1) rest) vars)
  uncaught : {faults : List Fault} {dead_only : Bool} {handler : Block} {x : List ℕ} {rest : Term}
      → StepRule vars here (Trying (Raise faults) dead_only handler x rest) (Local (Raise faults) vars)
  in_try : {inside left : Term} {after : Vars} {dead_only : Bool} {handler : Block} {x : List ℕ} {rest : Term}
      → StepRule vars here inside (Local left after)
      → StepRule vars here (Trying inside dead_only handler x rest) (Local (Trying left dead_only handler x rest) after)
  asks_in_try : {inside : Term} {d : Does} {dead_only : Bool} {handler : Block} {x : List ℕ} {rest : Term}
      → GoesOn inside → IsAsking d → StepRule vars here inside d → StepRule vars here (Trying inside dead_only handler x rest) d
  -- the body of a finish is over or raised, and so waits, or it goes on
  waits : {rest : Term} → StepRule vars here (Body Empty rest) (Waits [])
  waits_raised : {faults : List Fault} {rest : Term} → StepRule vars here (Body (Raise faults) rest) (Waits faults)
  in_body : {inside left : Term} {after : Vars} {rest : Term} → StepRule vars here inside (Local left after)
      → StepRule vars here (Body inside rest) (Local (Body left rest) after)
  asks_in_body : {inside : Term} {d : Does} {rest : Term} → GoesOn inside → IsAsking d → StepRule vars here inside d
      → StepRule vars here (Body inside rest) d
  releases : {rest : Term} → StepRule vars here (Held rest) Releases

-- Each step is by a rule.

abbrev IsUndone : Does → Type 0
IsUndone (Done faults) = ⊥
IsUndone _ = Unit {0}

asking-undone : (d : Does) → IsAsking d → IsUndone d
asking-undone (Done faults) a = a
asking-undone d a = tt

-- a term that goes on is not done
undone : {vars : Vars} {here : ℕ} {t : Term} {d : Does} → StepRule vars here t d → GoesOn t → IsUndone d
undone empty g = absurd g
undone raised g = absurd g
undone (asks_in_try {d = d} o a s) g = asking-undone d a
undone (asks_in_body {d = d} o a s) g = asking-undone d a
undone _ g = tt

module _ (vars : Vars) (here : ℕ) where
  on-number : (stmt : Stmt) (x : List ℕ) (rest : Term) (o : Option ℤ) (f : ℤ → Does) → ((z : ℤ) → StepRule vars here (Run stmt x rest) (f z)) → StepRule vars here (Run stmt x rest) (with_number vars o f)
  on-number stmt x rest (Some z) f h = h z
  on-number stmt x rest None f h = raises Overflow

  on-place : (stmt : Stmt) (x : List ℕ) (rest : Term) (o : Option ℤ) (f : ℕ → Does) → ((p : ℕ) → p < vars.places → StepRule vars here (Run stmt x rest) (f p)) → StepRule vars here (Run stmt x rest) (with_place vars (target_of o vars.places) f)
  on-place stmt x rest (Some (pos p)) f h =
      (elim (nat_lt p vars.places) as (λ b. nat_lt p vars.places ≡ b → StepRule vars here (Run stmt x rest) (with_place vars (cond b (Ok p) (Err NoPlace)) f)) [
        | true ↦ λ e. h p (ltb-true p vars.places e)
        | false ↦ λ e. raises NoPlace
      ]) refl
  on-place stmt x rest (Some (negsuc n)) f h = raises NoPlace
  on-place stmt x rest None f h = raises Overflow

  on-home : (stmt : Stmt) (x : List ℕ) (rest : Term) (target : ℕ) (f : GlobalRef → Does) → ((r : GlobalRef) → r.home.0 ≡ here → StepRule vars here (Run stmt x rest) (f r)) → StepRule vars here (Run stmt x rest) (on_ref vars here target f)
  on-home stmt x rest target f h =
      let r = ref_in (value_of vars target) in
      cond_both (r.home.0 == here) (f r) (Local (raise WrongPlace) vars) (StepRule vars here (Run stmt x rest)) (λ e. h r (eqb-true r.home.0 here e)) (λ e. raises WrongPlace)

  of-stmt : (stmt : Stmt) (x : List ℕ) (rest : Term) → StepRule vars here (Run stmt x rest) (stmt_does vars here stmt x rest)
  of-stmt (SetTo name value) x rest =
      on-number (SetTo name value) x rest (eval vars here value) (λ z. Local rest (bound name (Number z) vars)) (λ z. sets z)
  of-stmt (New name words) x rest = makes
  of-stmt (Get name target index) x rest =
      on-number (Get name target index) x rest (eval vars here index) (λ k. on_ref vars here target (λ r. Gets name r k))
      (λ k. on-home (Get name target index) x rest target (λ r. Gets name r k) (λ r e. gets r k e))
  of-stmt (Put target index value) x rest =
      on-number (Put target index value) x rest (eval vars here index) (λ k. with_number vars (eval vars here value) (λ z. on_ref vars here target (λ r. Puts r k z)))
      (λ k. on-number (Put target index value) x rest (eval vars here value) (λ z. on_ref vars here target (λ r. Puts r k z))
      (λ z. on-home (Put target index value) x rest target (λ r. Puts r k z) (λ r e. puts r k z e)))
  of-stmt (Forget target) x rest = on-home (Forget target) x rest target Forgets (λ r e. forgets r e)
  of-stmt (Census name) x rest = counts
  of-stmt (Print value) x rest = on-number (Print value) x rest (eval vars here value) Prints (λ z. prints z)
  of-stmt (Throw value) x rest = on-number (Throw value) x rest (eval vars here value) (λ z. Local (raise (Thrown z)) vars) (λ z. raises (Thrown z))
  of-stmt (Async body) x rest = spawns
  of-stmt (AtAsync place body) x rest = on-place (AtAsync place body) x rest (eval vars here place) Spawns (λ p e. spawns_at p e)
  of-stmt (At place body) x rest = on-place (At place body) x rest (eval vars here place) Calls (λ p e. calls p e)
  of-stmt (Finish body) x rest = opens
  of-stmt (If test first other) x rest =
      on-number (If test first other) x rest (eval vars here test) (λ z. Local (cond (is_zero z) (items other (at x 1) rest) (items first (at x 0) rest)) vars)
      (λ z. cond_both (is_zero z) (items other (at x 1) rest) (items first (at x 0) rest) (λ t. StepRule vars here (Run (If test first other) x rest) (Local t vars)) (λ e. takes_other) (λ e. takes_first))
  of-stmt (Repeat times body) x rest = repeats
  of-stmt (Try body dead_only handler) x rest = tries

  within-try : (inside : Term) (dead_only : Bool) (handler : Block) (x : List ℕ) (rest : Term) (d : Does) → GoesOn inside → IsUndone d → StepRule vars here inside d → StepRule vars here (Trying inside dead_only handler x rest) (within (λ t. Trying t dead_only handler x rest) d)
  within-try inside dead_only handler x rest (Local left after) o u s = in_try s
  within-try inside dead_only handler x rest (Done faults) o u s = absurd u
  within-try inside dead_only handler x rest d o u s = asks_in_try o tt s

  of-try : (inside : Term) (dead_only : Bool) (handler : Block) (x : List ℕ) (rest : Term) (d : Does) → StepRule vars here inside d → StepRule vars here (Trying inside dead_only handler x rest) (trying_does vars inside d dead_only handler x rest)
  of-try Empty dead_only handler x rest d s = try_over
  of-try (Raise faults) dead_only handler x rest d s =
      cond_both (catches dead_only faults) (items handler (at x 1) rest) (Raise faults) (λ t. StepRule vars here (Trying (Raise faults) dead_only handler x rest) (Local t vars)) (λ e. caught) (λ e. uncaught)
  of-try inside dead_only handler x rest d s = within-try inside dead_only handler x rest d tt (undone s tt) s

  within-body : (inside rest : Term) (d : Does) → GoesOn inside → IsUndone d → StepRule vars here inside d → StepRule vars here (Body inside rest) (within (λ t. Body t rest) d)
  within-body inside rest (Local left after) o u s = in_body s
  within-body inside rest (Done faults) o u s = absurd u
  within-body inside rest d o u s = asks_in_body o tt s

  of-body : (inside rest : Term) (d : Does) → StepRule vars here inside d → StepRule vars here (Body inside rest) (body_does inside d rest)
  of-body Empty rest d s = waits
  of-body (Raise faults) rest d s = waits_raised
  of-body inside rest d s = within-body inside rest d tt (undone s tt) s

  pub rule_of : (t : Term) → StepRule vars here t (does vars here t)
  rule_of Empty = empty
  rule_of (Raise faults) = raised
  rule_of (Run stmt x rest) = of-stmt stmt x rest
  rule_of (Turns body x k times rest) =
      cond_both (nat_le times k) rest (items body (at x k) (Turns body x (suc k) times rest)) (λ t. StepRule vars here (Turns body x k times rest) (Local t vars)) (λ e. turns_over) (λ e. turns_on (leb-false times k e))
  rule_of (Trying inside dead_only handler x rest) = of-try inside dead_only handler x rest (does vars here inside) (rule_of inside)
  rule_of (Body inside rest) = of-body inside rest (does vars here inside) (rule_of inside)
  rule_of (Held rest) = releases

-- a grant is inside a body that goes on
pub granted_inside : (faults : List Fault) (inside rest : Term) → GoesOn inside → Body (granted faults inside) rest ≡ granted faults (Body inside rest)
granted_inside faults Empty rest g = absurd g
granted_inside faults (Raise fs) rest g = absurd g
granted_inside faults inside rest g = refl
