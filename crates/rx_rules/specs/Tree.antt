-- The tree of tasks and scopes that a history folds to.
use Rattle.std.specs.Prelude.{ℕ, Bool, true, false, cond, not, ◌&&◌, ◌==◌, List, [], ◌∷◌, Option, Some, None, is_none, length, slice_index_or}
use Rattle.std.specs.List.{list_any, find, range_with_len}
use Rattle.rx_base.specs.declared.ids.PlaceId.{PlaceId}
use Rattle.rx_base.specs.declared.ids.TaskId.{TaskId}
use Rattle.rx_base.specs.declared.ids.ScopeId.{ScopeId}
pub use Rattle.rx_rules.specs.declared.tasks.Blow.{Blow}
pub use Rattle.rx_rules.specs.declared.tasks.Task.{Task}
pub use Rattle.rx_rules.specs.declared.tasks.Scope.{Scope}
pub use Rattle.rx_rules.specs.declared.tasks.Kind.{Kind}
pub use Rattle.rx_rules.specs.declared.tasks.Kind.TheVariants.{Finish, Call}

-- tasks, scopes and dead places, as the entries of a history make them
pub record Tree : Type 0 where
  -- the newest first
  pub tasks : List Task
  -- the newest first, so that an inner scope stands before its parents
  pub scopes : List Scope
  -- struck tasks that a release has removed
  pub gone : List Task
  pub places : ℕ
  -- for each place that there can be the number of its death, if it is dead; the length is the limit of places
  pub dead : List (Option ℕ)
  -- the numbers of the next task and of the next scope
  pub next_task : ℕ
  pub next_scope : ℕ

-- Looking up. Ids are compared by their numbers.

-- the task has this number
abbrev pub is_task : TaskId → Task → Bool
is_task t x = x.number.0 == t.0

-- the task of this number
abbrev pub task_of : Tree → TaskId → Option Task
task_of T t = find (is_task t) T.tasks

-- the scope has this number
abbrev pub is_scope : ScopeId → Scope → Bool
is_scope s g = g.number.0 == s.0

-- the scope of this number
abbrev pub scope_of : Tree → ScopeId → Option Scope
scope_of T s = find (is_scope s) T.scopes

-- the number of the death of a place
abbrev pub death_of : Tree → PlaceId → Option ℕ
death_of T p = slice_index_or T.dead p.0 None

-- the places that there can be, in ascending order
abbrev pub places_of : Tree → List ℕ
places_of T = range_with_len 0 (length T.dead)

-- the task opened the scope
abbrev pub opened_by : TaskId → Scope → Bool
opened_by t g = elim g.opener [ Some x ↦ x.0 == t.0 | None ↦ false ]

-- the scope is the one that is looked for
abbrev pub wants : Option ScopeId → Scope → Bool
wants None g = false
wants (Some s) g = is_scope s g

-- The chain of a scope: itself, then its parents up to the root. Scopes stand newest first and a parent is older, so one walk
-- finds them all.
abbrev pub chain_in : List Scope → Option ScopeId → List Scope
chain_in [] want = []
chain_in (g ∷ gs) want = cond (wants want g) (g ∷ chain_in gs g.parent) (chain_in gs want)

-- the scopes from s along parents up to the root
abbrev pub chain : Tree → ScopeId → List Scope
chain T s = chain_in T.scopes (Some s)

-- s is on the chain from another scope
abbrev pub on_chain : Tree → ScopeId → ScopeId → Bool
on_chain T s from = list_any (is_scope s) (chain T from)

-- a task is under each scope of the chain of the scope that it hangs under
abbrev pub is_under : Tree → ScopeId → Task → Bool
is_under T s x = on_chain T s x.under

-- no task under the scope is unstruck
abbrev pub quiet : Tree → ScopeId → Bool
quiet T s = not (list_any (λ x. is_under T s x && is_none x.struck) T.tasks)

-- the last scope that the task opened and that still stands
abbrev pub own_scope : Tree → TaskId → Option Scope
own_scope T t = find (opened_by t) T.scopes

-- that scope, or else the one that the task hangs under
abbrev pub inner : Tree → Task → ScopeId
inner T x = elim (own_scope T x.number) [ Some g ↦ g.number | None ↦ x.under ]

-- scopes of a finish, and not of an at
abbrev pub is_finish : Kind → Bool
is_finish Finish = true
is_finish Call = false

-- s0
abbrev pub the_root : ScopeId
the_root = record { 0 = 0 }

-- the first finish of the walk; the root is one, and stands until the end
abbrev pub governing_in : List Scope → Option ScopeId → ScopeId
governing_in scopes want =
    elim (find (λ g. is_finish g.kind) (chain_in scopes want)) [ Some g ↦ g.number | None ↦ the_root ]

-- the first finish from the scope along parents
abbrev pub governing : Tree → ScopeId → ScopeId
governing T s = governing_in T.scopes (Some s)

-- the first finish from the inner scope along parents
abbrev pub governs : Tree → Task → ScopeId
governs T x = governing T (inner T x)
