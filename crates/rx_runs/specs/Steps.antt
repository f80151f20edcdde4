-- How many steps a term and the tasks that it will start can still make, without its own end.
use Rattle.std.specs.Prelude.{ℕ, ◌+◌, ◌-◌, ◌*◌, ◌≤◌, List, []}
use Rattle.rx_base.specs.declared.values.Fault.{Fault}
use Rattle.rx_rules.specs.Code.{work, work_of}
use Rattle.rx_rules.specs.Terms.{Term, Empty, Raise, Run, Turns, Trying, Body, Held, Answer, answered, Does, Local}
use Rattle.rx_rules.specs.Terms.{Opens, Calls, Spawns, Waits, Releases, Prints, Counts, Done, granted, child, Vars, does}

-- at most three for each unit of work
abbrev pub steps : Term → ℕ
steps Empty = 0
steps (Raise faults) = 0
steps (Run stmt x rest) = 3 * work_of stmt + steps rest
steps (Turns body x k times rest) = 1 + ((times - k) + 3 * ((times - k) * work body)) + steps rest
steps (Trying inside dead_only handler x rest) = steps inside + (1 + 3 * work handler) + steps rest
steps (Body inside rest) = steps inside + 2 + steps rest
steps (Held rest) = 1 + steps rest

-- Each step of a term leaves less, by `size`: a local step by `step`, the store's answer by `call`, and a granted request by
-- `entry`, and by what the new task brings.
abbrev pub Falls : (Term → ℕ) → (Term → ℕ) → ℕ → ℕ → ℕ → Term → Does → Type 0
Falls size brings step call entry t (Local after vars) = size after + step ≤ size t
Falls size brings step call entry t Opens = size (granted [] t) + entry ≤ size t
Falls size brings step call entry t (Calls p) = size (granted [] t) + (brings (child t) + entry) ≤ size t
Falls size brings step call entry t (Spawns p) = size (granted [] t) + (brings (child t) + entry) ≤ size t
Falls size brings step call entry t (Waits faults) = size (granted [] t) + entry ≤ size t
Falls size brings step call entry t Releases = (faults : List Fault) → size (granted faults t) + entry ≤ size t
Falls size brings step call entry t (Prints value) = size (granted [] t) + entry ≤ size t
Falls size brings step call entry t (Counts name) = size (granted [] t) + entry ≤ size t
Falls size brings step call entry t (Done faults) = Unit {0}
Falls size brings step call entry t _ = (a : Answer) → size (answered a t) + call ≤ size t

-- a task that is started brings its steps and its end
abbrev pub started_steps : Term → ℕ
started_steps t = steps t + 1

-- each step leaves one step less
abbrev pub Sinks : Term → Does → Type 0
Sinks t d = Falls steps started_steps 1 1 1 t d

-- each step of a term leaves less
abbrev pub TermSinks : Type 0
TermSinks = (vars : Vars) (here : ℕ) (t : Term) → Sinks t (does vars here t)
