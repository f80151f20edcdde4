-- Each step of a term leaves fewer.
use Rattle.std.proofs.Common.{◌≡◌, ℕ, ◌+◌, ◌-◌, ◌*◌, ◌<◌, ◌≤◌, List, [], ◌∷◌, Some, arith}
use Rattle.std.proofs.lemmas.Option.{none-some}
use Rattle.rx_rules.proofs.Common.{Fault, Stmt, Async, AtAsync, At, Finish, work_of, Vars, Term, Empty, Run, Raise, Turns, Trying, Body, Held, Does, Local, does, begins, child, stmt_child, granted, stmt_granted, or_raise, replaced, after_it, Answer, Gives, Fine, Fails, answered}
use Rattle.rx_runs.specs.Steps.{steps, Sinks}
use Rattle.rx_runs.proofs.Sinking.{sinks, steps_items}
use Rattle.rx_control.specs.Bound.{StepFalls}

-- what leaves less in each step leaves less in a local one
sink-falls : (t : Term) (d : Does) → Sinks t d → StepFalls (steps t) d
sink-falls t (Local left vars) h = let less : steps left + 1 ≤ steps t = h in omega (arith, less)
sink-falls t _ h = tt

-- each local step of a term leaves less
pub local-falls : (vars : Vars) (here : ℕ) (t : Term) → StepFalls (steps t) (does vars here t)
local-falls vars here t = sink-falls t (does vars here t) (sinks vars here t)

stmt-grants : (stmt : Stmt) (x : List ℕ) (rest : Term) → steps (stmt_granted stmt x rest) ≤ 3 * work_of stmt + steps rest
stmt-grants (Finish body) x rest = omega (arith, steps_items body x 0 Empty)
stmt-grants _ x rest = omega arith

or-raise : (faults : List Fault) (rest : Term) → steps (or_raise faults rest) ≤ steps rest
or-raise [] rest = omega arith
or-raise (f ∷ fs) rest = omega arith

-- no grant leaves more
pub granted-rest : (faults : List Fault) (t : Term) → steps (granted faults t) ≤ steps t
granted-rest faults Empty = omega arith
granted-rest faults (Run stmt x rest) = stmt-grants stmt x rest
granted-rest faults (Raise fs) = omega arith
granted-rest faults (Turns body x k times rest) = omega arith
granted-rest faults (Trying inside o b x rest) = omega (arith, granted-rest faults inside)
granted-rest faults (Body Empty rest) = omega arith
granted-rest faults (Body (Raise fs) rest) = omega arith
granted-rest faults (Body (Run s y m) rest) = omega (arith, granted-rest faults (Run s y m))
granted-rest faults (Body (Turns c y k n m) rest) = omega arith
granted-rest faults (Body (Trying u p c y m) rest) = omega (arith, granted-rest faults (Trying u p c y m))
granted-rest faults (Body (Body u m) rest) = omega (arith, granted-rest faults (Body u m))
granted-rest faults (Body (Held m) rest) = omega (arith, granted-rest faults (Held m))
granted-rest faults (Held rest) = omega (arith, or-raise faults rest)

stmt-starts : (stmt : Stmt) (x : List ℕ) → steps (stmt_child stmt x) < 3 * work_of stmt
stmt-starts (Async body) x = omega (arith, steps_items body x 0 Empty)
stmt-starts (AtAsync place body) x = omega (arith, steps_items body x 0 Empty)
stmt-starts (At place body) x = omega (arith, steps_items body x 0 Empty)
stmt-starts _ x = omega arith

-- a task that is started has fewer steps than its starter had
pub child-falls : (t : Term) (x : List ℕ) → begins t ≡ Some x → steps (child t) < steps t
child-falls (Run stmt y rest) x h = omega (arith, stmt-starts stmt y)
child-falls (Trying inside o b y rest) x h = omega (arith, child-falls inside x h)
child-falls (Body inside rest) x h = omega (arith, child-falls inside x h)
child-falls _ x h = absurd (none-some x h)

-- what stands in the innermost statement's place is what comes after it, or what is raised
replaced-falls : (t new : Term) (x : List ℕ) → begins t ≡ Some x → steps new ≤ steps (after_it t) → steps (replaced t new) < steps t
replaced-falls (Run stmt y rest) new x h l = omega (arith, stmt-starts stmt y, l)
replaced-falls (Trying inside o b y rest) new x h l = omega (arith, replaced-falls inside new x h l)
replaced-falls (Body inside rest) new x h l = omega (arith, replaced-falls inside new x h l)
replaced-falls _ new x h l = absurd (none-some x h)

-- each answer of the store leaves less
pub answered-falls : (a : Answer) (t : Term) (x : List ℕ) → begins t ≡ Some x → steps (answered a t) < steps t
answered-falls (Gives name value) t x h = replaced-falls t (after_it t) x h (omega arith)
answered-falls Fine t x h = replaced-falls t (after_it t) x h (omega arith)
answered-falls (Fails fault) t x h = replaced-falls t (Raise (fault ∷ [])) x h (omega arith)

-- without the list that was raised there are no more
pub emptied-rest : (t : Term) → steps (replaced t Empty) ≤ steps t
emptied-rest (Trying inside o b x rest) = omega (arith, emptied-rest inside)
emptied-rest (Body inside rest) = omega (arith, emptied-rest inside)
emptied-rest _ = omega arith
