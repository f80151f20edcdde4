-- A task's own scopes: where they stand, and what a release takes of them.
use Rattle.std.specs.Prelude.{◌≡◌, ◌≢◌, ℕ, ◌<◌, true, List, ◌∷◌, filter, Some, None}
use Rattle.rx_base.specs.declared.values.Fault.{Fault}
use Rattle.rx_base.specs.declared.place_set.PlaceSet.{PlaceSet}
use Rattle.rx_base.specs.declared.ids.TaskId.{TaskId}
use Rattle.rx_base.specs.declared.ids.ScopeId.{ScopeId}
use Rattle.rx_rules.specs.declared.tasks.Task.{Task}
use Rattle.rx_rules.specs.declared.tasks.Scope.{Scope}
use Rattle.rx_rules.specs.declared.entries.Act.TheVariants.{Release}
use Rattle.rx_rules.specs.Tree.{Tree, task_of, scope_of, own_scope, opened_by, on_chain, is_under}
use Rattle.rx_rules.specs.Entries.{AllowedAct, made_act}
use Rattle.rx_rules.specs.Reached.{Reached}
use Rattle.rx_tree_laws.specs.Chains.{meets}

-- a task's own scopes stand below the scope that it hangs under
abbrev pub OwnBelow : Type 0
OwnBelow = (T : Tree) (x : Task) (g : Scope) → Reached T → task_of T x.number ≡ Some x → own_scope T x.number ≡ Some g
    → on_chain T x.under g.number ≡ true

-- a release takes no own scope of another unstruck task
abbrev pub ReleaseSpares : Type 0
ReleaseSpares = (T : Tree) (t : TaskId) (s : ScopeId) (lost : PlaceSet) (masked : ℕ) (thrown : List Fault) (x : Task)
    → Reached T → AllowedAct T t (Release s lost masked thrown) → task_of T x.number ≡ Some x → x.struck ≡ None → x.number.0 ≢ t.0
    → own_scope (made_act T t (Release s lost masked thrown)) x.number ≡ own_scope T x.number

-- so all its own scopes stay, in order
abbrev pub ReleaseKeeps : Type 0
ReleaseKeeps = (T : Tree) (t : TaskId) (s : ScopeId) (lost : PlaceSet) (masked : ℕ) (thrown : List Fault) (x : Task)
    → Reached T → AllowedAct T t (Release s lost masked thrown) → task_of T x.number ≡ Some x → x.struck ≡ None → x.number.0 ≢ t.0
    → filter (opened_by x.number) (made_act T t (Release s lost masked thrown)).scopes ≡ filter (opened_by x.number) T.scopes

-- of the own scopes of the task that releases, newest first, it takes the first
abbrev pub ReleasePops : Type 0
ReleasePops = (T : Tree) (t : TaskId) (s : ScopeId) (lost : PlaceSet) (masked : ℕ) (thrown : List Fault)
    → Reached T → AllowedAct T t (Release s lost masked thrown)
    → (g : Scope) × (g.number ≡ s)
    × (filter (opened_by t) T.scopes ≡ g ∷ filter (opened_by t) (made_act T t (Release s lost masked thrown)).scopes)

-- an unstruck task that waits has a scope of its own
abbrev pub WaiterOwns : Type 0
WaiterOwns = (T : Tree) (t : TaskId) (x : Task) → Reached T → task_of T t ≡ Some x → x.struck ≡ None → x.waits ≡ true → (g : Scope)
    × (own_scope T t ≡ Some g)

-- a task is younger than the opener of each scope that it is under
abbrev pub OpenersOlder : Type 0
OpenersOlder = (T : Tree) (t o : TaskId) (x : Task) (g : Scope) → Reached T → task_of T t ≡ Some x → scope_of T g.number ≡ Some g
    → g.opener ≡ Some o → is_under T g.number x ≡ true → o.0 < t.0

-- the walk over the scopes meets s exactly where s is on the chain
abbrev pub MeetsChain : Type 0
MeetsChain = (T : Tree) (s from : ScopeId) → on_chain T s from ≡ meets s T.scopes (Some from)
