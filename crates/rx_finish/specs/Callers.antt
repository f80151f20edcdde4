-- Who asks a ledger, and what a ledger's call asks of a tree.
use Rattle.std.specs.Prelude.{◌≡◌, ℕ, ◌<◌, ◌^◌, Bool, true, false, Option, Some, None, All, ◌⊎◌}
use Rattle.std.specs.List.{find}
use Rattle.rx_base.specs.declared.ids.PlaceId.{PlaceId}
use Rattle.rx_base.specs.declared.ids.TaskId.{TaskId}
use Rattle.rx_rules.specs.declared.tasks.Where.{Where}
use Rattle.rx_rules.specs.declared.tasks.Where.TheVariants.{At, Travel}
use Rattle.rx_rules.specs.declared.tasks.Task.{Task}
use Rattle.rx_rules.specs.declared.tasks.Scope.{Scope}
use Rattle.rx_rules.specs.declared.tasks.Kind.TheVariants.{Finish}
use Rattle.rx_rules.specs.Tree.{Tree, is_task, task_of, scope_of, inner, own_scope, the_root}
use Rattle.rx_rules.specs.Entries.{Allowed}
use Rattle.rx_rules.specs.declared.entries.Entry.TheVariants.{Death, Join}
use Rattle.rx_rules.specs.Reached.{IsOlder}
use Rattle.rx_finish.specs.declared.ledger.Caller.{Caller}

-- the task hangs and is (or travels) as the caller says
pub record Says (who : Caller) (x : Task) : Type 0 where
  pub under : x.under ≡ who.scope
  pub place : x.place ≡ who.place

-- the caller is a task of the tree as it says, struck or not, and P holds of it
pub record CallerStands (T : Tree) (who : Caller) (P : Task → Type 0) : Type 0 where
  pub task : Task
  pub stands : task_of T who.task ≡ Some task
  pub says : Says who task
  pub inner_is : inner T task ≡ who.inner
  pub allowed : P task

-- a struck task that a release has removed
abbrev pub gone_of : Tree → TaskId → Option Task
gone_of T t = find (is_task t) T.gone

-- the caller is such a task as it says; its own scopes left with it, and nothing else is asked
pub record HasLeft (T : Tree) (who : Caller) : Type 0 where
  pub task : Task
  pub none : task_of T who.task ≡ None
  pub gone : gone_of T who.task ≡ Some task
  pub says : Says who task

-- fewer than 2 ^ 31 tasks and fewer than 2 ^ 31 scopes have been numbered
pub record HasNumbers (T : Tree) : Type 0 where
  pub tasks : T.next_task < 2 ^ 31
  pub scopes : T.next_scope < 2 ^ 31

-- The caller stands in the tree as it says, or has left it with a release; and the numbers suffice. P says where the call is allowed.
pub record MayAsk (T : Tree) (who : Caller) (P : Task → Type 0) : Type 0 where
  pub caller : CallerStands T who P ⊎ HasLeft T who
  pub numbers : HasNumbers T

-- Where the calls are allowed.

-- it is at a place and does not wait
pub record IsMoving (x : Task) : Type 0 where
  pub place : PlaceId
  pub is_at : x.place ≡ At place
  pub moves : x.waits ≡ false

-- whether it is on its way
abbrev pub does_travel : Where → Bool
does_travel (At p) = false
does_travel (Travel from to) = true

-- it travels
pub record Travels (x : Task) : Type 0 where
  pub travels : does_travel x.place ≡ true

-- it moves, and its inner scope is a finish that it opened
pub record HasFinish (T : Tree) (who : Caller) (x : Task) : Type 0 where
  pub moving : IsMoving x
  pub scope : Scope
  pub own : own_scope T who.task ≡ Some scope
  pub finish : scope.kind ≡ Finish

-- it waits at its inner scope, which it opened
pub record WaitsInside (T : Tree) (who : Caller) (x : Task) : Type 0 where
  pub waits : x.waits ≡ true
  pub scope : Scope
  pub own : own_scope T who.task ≡ Some scope

-- it moves and has no scope of its own
pub record IsBare (T : Tree) (who : Caller) (x : Task) : Type 0 where
  pub moving : IsMoving x
  pub none_open : own_scope T who.task ≡ None

-- The conditions, call by call.

-- of open_finish, print and census
abbrev pub MayAskMoving : Tree → Caller → Type 0
MayAskMoving T who = MayAsk T who IsMoving

-- of spawn and open_at: the place exists
pub record MayAskTo (T : Tree) (who : Caller) (to : PlaceId) : Type 0 where
  pub asks : MayAsk T who IsMoving
  pub target : to.0 < T.places

-- of arrive
abbrev pub MayAskArrive : Tree → Caller → Type 0
MayAskArrive T who = MayAsk T who Travels

-- of wait
abbrev pub MayAskWait : Tree → Caller → Type 0
MayAskWait T who = MayAsk T who (HasFinish T who)

-- of ready and release: whether the scope is quiet or not
abbrev pub MayAskRelease : Tree → Caller → Type 0
MayAskRelease T who = MayAsk T who (WaitsInside T who)

-- of end
abbrev pub MayAskEnd : Tree → Caller → Type 0
MayAskEnd T who = MayAsk T who (IsBare T who)

-- of release_root: the root has not been released
pub record HasRoot (T : Tree) : Type 0 where
  pub root : Scope
  pub stands : scope_of T the_root ≡ Some root

-- of death: a place that exists, lives and is not 0, and a number above that of each earlier death
pub record MayStrike (T : Tree) (d : PlaceId) (number : ℕ) : Type 0 where
  pub dies : Allowed T (Death d)
  pub later : All (IsOlder number) T.dead

-- of join: the place is the next one, and is the sixteenth at most
abbrev pub MayJoin : Tree → PlaceId → Type 0
MayJoin T p = Allowed T (Join p)
