-- Laws of a task's next step.
use Rattle.std.specs.Prelude.{◌≡◌, ℕ, ◌<◌, ◌≤◌, ◌↔◌, true}
use Rattle.rx_rules.specs.Terms.{Vars, Term, Releases, does, begins, receives}
use Rattle.rx_tree_laws.specs.Held.{is_held}
use Rattle.rx_tree_laws.specs.TermSteps.{BeginsStatement, Silent, CallSo, Targets}

-- a task releases exactly where it waits at a scope
abbrev pub HeldReleases : Type 0
HeldReleases = (vars : Vars) (here : ℕ) (t : Term) → (does vars here t ≡ Releases) ↔ (is_held t ≡ true)

-- a store call and each request but a wait, a release and an end begin a statement, and these three begin none
abbrev pub StepsBegin : Type 0
StepsBegin = (vars : Vars) (here : ℕ) (t : Term) → BeginsStatement (does vars here t) (begins t) × Silent (does vars here t) (begins t)

-- a store call asks the store of the place where the task is
abbrev pub StoresAtHome : Type 0
StoresAtHome = (vars : Vars) (here : ℕ) (t : Term) → CallSo here (does vars here t) (receives t)

-- a step names only places that the task knows to be there
abbrev pub PlacesThere : Type 0
PlacesThere = (vars : Vars) (here places : ℕ) (t : Term) → here < places → vars.places ≤ places → Targets places (does vars here t)
