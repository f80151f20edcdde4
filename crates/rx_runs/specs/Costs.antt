-- How many entries a term may still make, with those of the tasks that it will start, but without its own end.
use Rattle.std.specs.Prelude.{ℕ, ◌+◌, ◌-◌, ◌*◌}
use Rattle.rx_rules.specs.Code.{work, work_of}
use Rattle.rx_rules.specs.Terms.{Term, Empty, Raise, Run, Turns, Trying, Body, Held, Does, Vars, does}
use Rattle.rx_runs.specs.Steps.{Falls}

-- at most four for each unit of work
abbrev pub cost : Term → ℕ
cost Empty = 0
cost (Raise faults) = 0
cost (Run stmt x rest) = 4 * work_of stmt + cost rest
cost (Turns body x k times rest) = 4 * ((times - k) * work body) + cost rest
cost (Trying inside dead_only handler x rest) = cost inside + 4 * work handler + cost rest
cost (Body inside rest) = cost inside + 2 + cost rest
cost (Held rest) = 1 + cost rest

-- a task that is started brings its entries, its arrival and its end
abbrev pub started_cost : Term → ℕ
started_cost t = cost t + 2

-- An entry costs one. Local steps and store calls cost nothing.
abbrev pub Spends : Term → Does → Type 0
Spends t d = Falls cost started_cost 0 0 1 t d

-- no step of a term costs more than it has
abbrev pub TermSpends : Type 0
TermSpends = (vars : Vars) (here : ℕ) (t : Term) → Spends t (does vars here t)
