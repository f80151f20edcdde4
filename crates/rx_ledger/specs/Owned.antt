-- The scopes that a task has opened and not released, as its own entries tell them; and how many numbers a history gives.
use Rattle.std.specs.Prelude.{◌≡◌, ℕ, ◌+◌, ◌<◌, ◌^◌, ◌==◌, cond, drop, filter, map, length, List, [], ◌∷◌, Some}
use Rattle.rx_base.specs.declared.ids.TaskId.{TaskId}
use Rattle.rx_base.specs.declared.ids.ScopeId.{ScopeId}
use Rattle.rx_rules.specs.declared.entries.Act.{Act}
use Rattle.rx_rules.specs.declared.entries.Act.TheVariants.{Open, At as Calls, Release}
use Rattle.rx_rules.specs.declared.entries.Entry.{Entry}
use Rattle.rx_rules.specs.declared.entries.Entry.TheVariants.{Step, Root, Death, Join}
use Rattle.rx_rules.specs.declared.tasks.Kind.{Kind}
use Rattle.rx_rules.specs.declared.tasks.Kind.TheVariants.{Finish, Call}
use Rattle.rx_rules.specs.declared.tasks.Scope.{Scope}
use Rattle.rx_rules.specs.declared.tasks.Task.{Task}
use Rattle.rx_rules.specs.Tree.{Tree, task_of, opened_by}
use Rattle.rx_rules.specs.Fold.{tree_of}
use Rattle.rx_rules.specs.Run.{Given, Folds}
use Rattle.rx_finish.specs.declared.ledger.Caller.{Caller}
use Rattle.rx_finish.specs.Callers.{MayAskMoving, MayAskWait, MayAskEnd, HasNumbers}

-- number and kind of each scope, the newest first
abbrev pub Owned : Type 0
Owned = List (ScopeId × Kind)

abbrev pub sort_of : Scope → ScopeId × Kind
sort_of g = (g.number, g.kind)

-- what an act makes of the scopes of its task
abbrev pub own_after : Act → Owned → Owned
own_after (Open s r path) own = (s, Finish) ∷ own
own_after (Calls from to s r callee path) own = (s, Call) ∷ own
own_after (Release s lost masked thrown) own = drop 1 own
own_after _ own = own

-- the scopes of a task after the entries
abbrev pub own_from : TaskId → Owned → List Entry → Owned
own_from t own [] = own
own_from t own (Step u act batch ∷ es) = own_from t (cond (u.0 == t.0) (own_after act own) own) es
own_from t own (Root lost masked thrown ∷ es) = own_from t own es
own_from t own (Death d ∷ es) = own_from t own es
own_from t own (Join d ∷ es) = own_from t own es

-- the scopes of a task, as a history tells them
abbrev pub own_told : List Entry → TaskId → Owned
own_told es t = own_from t [] es

-- the scopes of a task in a tree
abbrev pub owned : Tree → TaskId → Owned
owned T t = map sort_of (filter (opened_by t) T.scopes)

-- a task that stands in the tree has the scopes that its history tells, also where it is struck
abbrev pub OwnedAsTold : Type 0
OwnedAsTold =
    (U : Given) (es : List Entry) (t : TaskId) (x : Task) → Folds U es → task_of (tree_of U.places es) t ≡ Some x
    → owned (tree_of U.places es) t ≡ own_told es t

-- who may go on and has a finish as its newest scope may wait
abbrev pub MayWaitNext : Type 0
MayWaitNext =
    (U : Given) (es : List Entry) (who : Caller) (s : ScopeId) (rest : Owned) → Folds U es → own_told es who.task ≡ (s, Finish) ∷ rest
    → MayAskMoving (tree_of U.places es) who → MayAskWait (tree_of U.places es) who

-- who may go on and has no scope may end
abbrev pub MayEndNext : Type 0
MayEndNext =
    (U : Given) (es : List Entry) (who : Caller) → Folds U es → own_told es who.task ≡ [] → MayAskMoving (tree_of U.places es) who
    → MayAskEnd (tree_of U.places es) who

-- a history of fewer than 2 ^ 31 - 1 entries leaves numbers for more tasks and scopes
abbrev pub NumbersAreLeft : Type 0
NumbersAreLeft = (places : ℕ) (es : List Entry) → length es + 1 < 2 ^ 31 → HasNumbers (tree_of places es)
