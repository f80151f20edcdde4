-- The trees of a worked run, in which each task starts the next at the next place, inside a finish of its own.
use Rattle.std.specs.Prelude.{◌≡◌, ℕ, ◌+◌, [], Some}
use Rattle.rx_base.specs.declared.ids.PlaceId.{PlaceId}
use Rattle.rx_base.specs.declared.ids.TaskId.{TaskId}
use Rattle.rx_base.specs.declared.ids.ScopeId.{ScopeId}
use Rattle.rx_rules.specs.declared.tasks.Task.{Task}
use Rattle.rx_rules.specs.declared.tasks.Where.{Where}
use Rattle.rx_rules.specs.declared.tasks.Where.TheVariants.{At}
use Rattle.rx_rules.specs.declared.entries.Act.TheVariants.{Open, Spawn, Arrive, Wait}
use Rattle.rx_rules.specs.Tree.{Tree, task_of, governs}
use Rattle.rx_rules.specs.Entries.{made_act}
use Rattle.rx_rules.specs.Fold.{opening}
use Rattle.rx_finish.specs.declared.ledger.Caller.{Caller}
use Rattle.rx_counts.specs.Stands.{HasScope}
use Rattle.rx_finish.specs.Callers.{MayAskMoving, MayAskTo, MayAskWait}

abbrev pub task : ℕ → TaskId
task n = record { 0 = n }

abbrev pub scope : ℕ → ScopeId
scope n = record { 0 = n }

abbrev pub place : ℕ → PlaceId
place n = record { 0 = n }

-- task n, which hangs under scope n, and its inner scope
abbrev pub caller : ℕ → ℕ → Where → Caller
caller n inner w = record { task = task n; scope = scope n; inner = scope inner; place = w }

-- task n at place n opens scope n + 1
abbrev pub opens : Tree → ℕ → Tree
opens T n = made_act T (task n) (Open (scope (n + 1)) (scope n) [])

-- and starts task n + 1 there for place n + 1
abbrev pub starts : Tree → ℕ → Tree
starts T n = made_act (opens T n) (task n) (Spawn (task (n + 1)) (scope (n + 1)) (place n) (place (n + 1)) [])

-- and waits
abbrev pub nested : Tree → ℕ → Tree
nested T n = made_act (starts T n) (task n) (Wait (scope (n + 1)) [])

-- the new task arrives
abbrev pub landed : Tree → ℕ → Tree
landed T n = made_act (nested T n) (task (n + 1)) (Arrive (place (n + 1)))

-- where task n may do so
pub record CanNest (T : Tree) (n : ℕ) : Type 0 where
  pub next_task : T.next_task ≡ n + 1
  pub next_scope : T.next_scope ≡ n + 1
  pub may_open : MayAskMoving T (caller n n (At (place n)))
  pub starter : Task
  pub stands : task_of (opens T n) (task n) ≡ Some starter
  pub under : governs (opens T n) starter ≡ scope (n + 1)
  pub may_start : MayAskTo (opens T n) (caller n (n + 1) (At (place n))) (place (n + 1))
  pub may_wait : MayAskWait (starts T n) (caller n (n + 1) (At (place n)))

-- the tree of so many places after two of them
abbrev pub two_deep : ℕ → Tree
two_deep places = landed (landed (opening places) 0) 1

-- and that of four places after three
abbrev pub three_deep : Tree
three_deep = landed (two_deep 4) 2

-- scopes 1 to 3 stand
pub record HasThree (T : Tree) : Type 0 where
  pub first : HasScope T (scope 1)
  pub second : HasScope T (scope 2)
  pub third : HasScope T (scope 3)
