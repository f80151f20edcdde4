-- What a coordinator keeps, and what an answer says.
use Rattle.std.specs.Prelude.{◌≡◌, ◌⊎◌, ℕ, ◌+◌, ◌≤◌, ◌<◌, ◌-◌, ◌^◌, Bool, true, false, is_some, List, [], ◌∷◌, ◌++◌, length, Some, None}
use Rattle.rx_base.specs.declared.ids.TaskId.{TaskId}
use Rattle.rx_base.specs.declared.ids.ScopeId.{ScopeId}
use Rattle.rx_base.specs.declared.ids.PlaceId.{PlaceId}
use Rattle.rx_rules.specs.declared.tasks.Task.{Task}
use Rattle.rx_rules.specs.declared.entries.Act.TheVariants.{Open as OpenAct, At as CallAct, Spawn as SpawnAct, Arrive as ArriveAct}
use Rattle.rx_rules.specs.declared.entries.Act.TheVariants.{Wait as WaitAct, Release as ReleaseAct, End as EndAct}
use Rattle.rx_rules.specs.declared.entries.Entry.{Entry}
use Rattle.rx_rules.specs.declared.entries.Entry.TheVariants.{Step, Root as RootEntry, Death as DeathEntry, Join as JoinEntry}
use Rattle.rx_rules.specs.Tree.{Tree, task_of, inner, death_of, the_root}
use Rattle.rx_rules.specs.Entries.{Allowed}
use Rattle.rx_rules.specs.Fold.{AllAllowed, opening, tree_of}
use Rattle.rx_finish.specs.Callers.{HasNumbers, HasRoot}
use Rattle.rx_finish.specs.Calls.{IsHindered}
use Rattle.rx_counts.specs.Stands.{StandsFor}
use Rattle.rx_coordinator.specs.declared.requests.Request.{Request}
use Rattle.rx_coordinator.specs.declared.requests.Request.TheVariants.{Open, At, Spawn, Send, Arrive, Wait, Release, End, Death, Join, Root}
use Rattle.rx_coordinator.specs.declared.requests.Answer.{Answer}
use Rattle.rx_coordinator.specs.declared.requests.Answer.TheVariants.{Bad, Full, NoMemory, NotYet, Opened, Called, Spawned, Sent, Landed, Waits}
use Rattle.rx_coordinator.specs.declared.requests.Answer.TheVariants.{Released, Ended, Died, Joined, RootDone}
use Rattle.rx_coordinator.specs.declared.coordinator.Coordinator.{Coordinator}
use Rattle.rx_coordinator.specs.Seats.{seat_at}
use Rattle.rx_coordinator.specs.Telling.{seat_told}

-- The coordinator stands after these entries, of which the first found p places: all are allowed, its ledger stands for the tree to which
-- they fold, and its table has a row for exactly the unstruck tasks of the tree, each as the tree tells it. The entries are nowhere kept.
pub record StandsAfter (c : Coordinator) (p : ℕ) (es : List Entry) : Type 0 where
  pub some : 1 ≤ p
  pub few : p ≤ 16
  pub allowed : AllAllowed 0 (opening p) es
  pub tree : StandsFor c.ledger (16 - (tree_of p es).places) (tree_of p es)
  pub numbers : HasNumbers (tree_of p es)
  pub count : c.entries ≡ length es
  pub seats : (t : TaskId) → seat_at c.seats t.0 ≡ seat_told (tree_of p es) t

-- The entry is what is asked for, and the answer tells what the entry tells. Who is started for a dead place is born struck.
abbrev pub Told : Tree → Request → Answer → Entry → Type 0
Told T (Open t) (Opened s) e = (r : ScopeId) × (e ≡ Step t (OpenAct s r []) [])
Told T (At t to) (Called b) e =
    (from : PlaceId) × (r : ScopeId) × (e ≡ Step t (CallAct from to b.scope r b.child []) []) × (b.lost ≡ is_some (death_of T to))
Told T (Spawn t to) (Spawned b) e =
    (from : PlaceId) × (e ≡ Step t (SpawnAct b.child b.scope from to []) []) × (b.lost ≡ is_some (death_of T to))
Told T (Arrive t) Landed e = (p : PlaceId) × (e ≡ Step t (ArriveAct p) [])
Told T (Wait t thrown) Waits e = (s : ScopeId) × (e ≡ Step t (WaitAct s thrown) [])
Told T (Release t) (Released o) e = (s : ScopeId) × (e ≡ Step t (ReleaseAct s o.lost o.masked o.thrown) [])
Told T (End t thrown) Ended e = e ≡ Step t (EndAct thrown) []
Told T (Death d) Died e = e ≡ DeathEntry d
Told T Join (Joined p) e = e ≡ JoinEntry p
Told T Root (RootDone o) e = e ≡ RootEntry o.lost o.masked o.thrown
Told T _ _ e = ⊥

-- an unstruck task that waits, whether its scope is quiet or not
pub record Awaits (T : Tree) (t : TaskId) : Type 0 where
  pub task : Task
  pub stands : task_of T t ≡ Some task
  pub unstruck : task.struck ≡ None
  pub waits : task.waits ≡ true

-- some answer tells an entry that is allowed
abbrev pub HasEntry : Tree → Request → Type 0
HasEntry T q = (a : Answer) × (e : Entry) × Told T q a e × Allowed T e

-- The request may be made: some entry that it asks for is allowed. A release may be asked for, too, by a task that waits, and by the host
-- as long as the root stands. Who may spawn may send.
abbrev pub May : Tree → Request → Type 0
May T (Release t) = Awaits T t
May T Root = HasRoot T
May T (Send t to) = HasEntry T (Spawn t to)
May T q = HasEntry T q

-- an unstruck task at the place, or on its way there, is under the scope that is to be released
abbrev pub Busy : Tree → Request → PlaceId → Type 0
Busy T (Release t) place = (x : Task) × (task_of T t ≡ Some x) × IsHindered T (inner T x) place
Busy T Root place = IsHindered T the_root place
Busy T _ place = ⊥

-- one more task and one more scope may be numbered
pub record HasMore (T : Tree) : Type 0 where
  pub tasks : T.next_task + 1 < 2 ^ 31
  pub scopes : T.next_scope + 1 < 2 ^ 31

-- how many entries a request makes
abbrev pub turns : Request → ℕ
turns (Send t to) = 2
turns _ = 1

-- it numbers a task or a scope
abbrev pub does_number : Request → Bool
does_number (Open t) = true
does_number (At t to) = true
does_number (Spawn t to) = true
does_number (Send t to) = true
does_number _ = false

-- after n entries numbers for the request are used up: there are 2^32 - 1 for entries, and 2^31 - 1 for tasks and for scopes
abbrev pub IsUsedUp : Tree → ℕ → Request → Type 0
IsUsedUp T n q = (2 ^ 32 ≤ n + turns q) ⊎ ((does_number q ≡ true) × (HasMore T → ⊥))

-- a task lands where it travels, and else nothing comes
abbrev pub Landing : ℕ → List Entry → TaskId → (List Entry → Type 0) → Type 0
Landing p es t S =
    ((e : Entry) × Told (tree_of p es) (Arrive t) Landed e × Allowed (tree_of p es) e × S (es ++ e ∷ []))
    ⊎ ((May (tree_of p es) (Arrive t) → ⊥) × S es)

-- The answer to a request after these entries, where S holds of the entries after it. `Bad` comes exactly where the request may not be
-- made. `Full`, `NoMemory` and `NotYet` come where it may be made, and make no entry. Of a task that is sent two acts are told: its start,
-- and that it lands.
abbrev pub IsReplyTo : ℕ → List Entry → Request → Answer → (List Entry → Type 0) → Type 0
IsReplyTo p es q Bad S = (May (tree_of p es) q → ⊥) × S es
IsReplyTo p es q Full S = May (tree_of p es) q × IsUsedUp (tree_of p es) (length es) q × S es
IsReplyTo p es q NoMemory S = May (tree_of p es) q × S es
IsReplyTo p es q (NotYet place) S = May (tree_of p es) q × Busy (tree_of p es) q place × S es
IsReplyTo p es (Send t to) (Sent b) S =
    (e : Entry) × Told (tree_of p es) (Spawn t to) (Spawned b) e × Allowed (tree_of p es) e × Landing p (es ++ e ∷ []) b.child S
IsReplyTo p es q a S = (e : Entry) × Told (tree_of p es) q a e × Allowed (tree_of p es) e × S (es ++ e ∷ [])
