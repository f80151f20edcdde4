-- What an entry asks of the tree, and what it makes of it.
use Rattle.std.specs.Prelude.{◌≡◌, ◌≢◌, ℕ, suc, ◌<◌, min, Bool, true, false, cond, not, ◌&&◌, ◌||◌, ◌==◌, List, [], ◌∷◌, ◌++◌, map}
use Rattle.std.specs.Prelude.{filter, length, sum_by, Some, None, is_some, is_none, option_map, slice_set}
use Rattle.std.specs.List.{list_any}
use Rattle.rx_base.specs.declared.values.Fault.{Fault}
use Rattle.rx_base.specs.declared.ids.PlaceId.{PlaceId}
use Rattle.rx_base.specs.declared.place_set.PlaceSet.{PlaceSet}
use Rattle.rx_base.specs.declared.ids.TaskId.{TaskId}
use Rattle.rx_base.specs.declared.ids.ScopeId.{ScopeId}
use Rattle.rx_base.specs.Sets.{members}
use Rattle.rx_rules.specs.declared.tasks.Where.{Where}
use Rattle.rx_rules.specs.declared.tasks.Where.TheVariants.{At, Travel}
use Rattle.rx_rules.specs.declared.entries.Act.{Act}
use Rattle.rx_rules.specs.declared.entries.Act.TheVariants.{Open, At as Calls, Spawn, Arrive, Wait, Release, End, Print, Census}
use Rattle.rx_rules.specs.declared.entries.Entry.{Entry}
use Rattle.rx_rules.specs.declared.entries.Entry.TheVariants.{Step, Root, Death, Join}
use Rattle.rx_rules.specs.Tree.{Tree, Task, Scope, Blow, Kind, Finish, Call, is_task, is_scope, task_of, scope_of, death_of, on_chain}
use Rattle.rx_rules.specs.Tree.{is_under, quiet, own_scope, inner, governs, places_of, the_root}

-- Changes of the tree.

-- A look-up finds the first that passes, and so a change changes the first and no other.
abbrev pub change_first : {X : Type 0} → (X → Bool) → (X → X) → List X → List X
change_first p f [] = []
change_first p f (x ∷ xs) = cond (p x) (f x ∷ xs) (x ∷ change_first p f xs)

-- one task changed
abbrev pub change_task : (Task → Task) → TaskId → Tree → Tree
change_task f t T = record T { tasks = change_first (is_task t) f T.tasks }

-- one scope changed
abbrev pub change_scope : (Scope → Scope) → ScopeId → Tree → Tree
change_scope f s T = record T { scopes = change_first (is_scope s) f T.scopes }

-- the place of a task that is at one
abbrev pub place_number : Where → PlaceId
place_number (At p) = p
place_number (Travel from to) = from

-- the place of a task, which is the home of the scopes that it opens
abbrev pub home_for : Tree → TaskId → PlaceId
home_for T t = elim (task_of T t) [ Some x ↦ place_number x.place | None ↦ record { 0 = 0 } ]

-- a task that is started at `from` for `to`: live at once, travelling, or struck from birth
abbrev pub born : Tree → TaskId → ScopeId → PlaceId → PlaceId → Task
born T number under from to =
    record {
      number = number;
      under = under;
      place = cond (from.0 == to.0) (At to) (Travel from to);
      waits = false;
      struck = option_map (λ n. record { place = to; entry = n }) (death_of T to);
    }

-- one task more
abbrev pub add_task : Task → Tree → Tree
add_task x T = record T { tasks = x ∷ T.tasks; next_task = suc T.next_task }

-- one scope more: a task opens it, with its place as home
abbrev pub opened : Tree → TaskId → Kind → ScopeId → ScopeId → Tree
opened T t kind s r =
    let g : Scope =
    record { number = s; kind = kind; opener = Some t; home = home_for T t; parent = Some r; body = []; ends = [] } in
    record T { scopes = g ∷ T.scopes; next_scope = suc T.next_scope }

-- the task waits
abbrev pub waiting : Task → Task
waiting x = record x { waits = true }

-- the task goes on
abbrev pub resumed : Task → Task
resumed x = record x { waits = false }

-- Deaths.

-- a death hits who is at the place, travels to it or travels from it
abbrev pub is_hit : PlaceId → Where → Bool
is_hit d (At p) = p.0 == d.0
is_hit d (Travel from to) = (from.0 == d.0) || (to.0 == d.0)

-- an unstruck task that is hit is struck
abbrev pub hit : Blow → Task → Task
hit b x = cond (is_none x.struck && is_hit b.place x.place) (record x { struck = Some b }) x

-- the death of a place
abbrev pub strike : Blow → Tree → Tree
strike b T = record T { tasks = map (hit b) T.tasks; dead = slice_set T.dead b.place.0 (Some b.entry) }

-- a place that joins
abbrev pub widened : Tree → Tree
widened T = record T { places = suc T.places }

-- Releases.

-- the task was lost at the place
abbrev pub was_lost_at : ℕ → Task → Bool
was_lost_at p x = elim x.struck [ Some b ↦ b.place.0 == p | None ↦ false ]

-- the places at which tasks under the scope were lost, in ascending order
abbrev pub lost_under : Tree → ScopeId → List ℕ
lost_under T s = filter (λ p. list_any (λ x. is_under T s x && was_lost_at p x) T.tasks) (places_of T)

-- the faults of the scope's body, and then those of the tasks that hang under it
abbrev pub thrown_of : Tree → ScopeId → List Fault
thrown_of T s = elim (scope_of T s) [ Some g ↦ g.body ++ g.ends | None ↦ [] ]

-- how many faults the scopes below s hold; the count stops at the greatest number of 32 bits
abbrev pub masked_under : Tree → ScopeId → ℕ
masked_under T s =
    min 4294967295
    (sum_by (λ g. length (g.body ++ g.ends)) (filter (λ g. on_chain T s g.number && not (is_scope s g)) T.scopes))

-- the scope, those below it and the struck tasks under it are gone
abbrev pub without : Tree → ScopeId → Tree
without T s =
    record T {
      tasks = filter (λ x. not (is_under T s x && is_some x.struck)) T.tasks;
      gone = T.gone ++ filter (λ x. is_under T s x && is_some x.struck) T.tasks;
      scopes = filter (λ g. not (on_chain T s g.number)) T.scopes;
    }

-- What each entry asks.

-- the task is at the place and does not wait
abbrev pub IsLive : PlaceId → Task → Type 0
IsLive p x = (x.place ≡ At p) × (x.waits ≡ false)

-- the task is live somewhere
abbrev pub IsLiveHere : Task → Type 0
IsLiveHere x = (p : PlaceId) × IsLive p x

-- the scope of its own in which the task works
abbrev pub WorksIn : Tree → TaskId → ScopeId → Scope → Type 0
WorksIn T t s g = (own_scope T t ≡ Some g) × (g.number ≡ s)

-- what a release names and counts, and that the scope is quiet
pub record MayFree (T : Tree) (s : ScopeId) (lost : PlaceSet) (masked : ℕ) (thrown : List Fault) : Type 0 where
  pub is_quiet : quiet T s ≡ true
  pub places : members lost ≡ lost_under T s
  pub count : masked ≡ masked_under T s
  pub faults : thrown ≡ thrown_of T s

-- what an act of task t, which is x, asks
abbrev pub ActAsks : Tree → TaskId → Task → Act → Type 0
ActAsks T t x (Open s r path) = IsLiveHere x × (s.0 ≡ T.next_scope) × (r ≡ inner T x)
ActAsks T t x (Calls from to s r callee path) =
    IsLive from x × (s.0 ≡ T.next_scope) × (r ≡ inner T x) × (callee.0 ≡ T.next_task) × (to.0 < T.places)
ActAsks T t x (Spawn child s from to path) =
    IsLive from x × (child.0 ≡ T.next_task) × (s ≡ governs T x) × (to.0 < T.places)
ActAsks T t x (Arrive p) = (from : PlaceId) × (x.place ≡ Travel from p)
ActAsks T t x (Wait s thrown) = IsLiveHere x × (g : Scope) × WorksIn T t s g × (g.kind ≡ Finish)
ActAsks T t x (Release s lost masked thrown) =
    (x.waits ≡ true) × (g : Scope) × WorksIn T t s g × MayFree T s lost masked thrown
ActAsks T t x (End thrown) = IsLiveHere x × (own_scope T t ≡ None)
ActAsks T t x (Print value path) = IsLiveHere x
ActAsks T t x (Census places path) = IsLiveHere x × (places ≡ T.places)

-- task t stands in the tree, no death has struck it, and P holds of it
pub record Unstruck (T : Tree) (t : TaskId) (P : Task → Type 0) : Type 0 where
  pub task : Task
  pub stands : task_of T t ≡ Some task
  pub unstruck : task.struck ≡ None
  pub asks : P task

-- an act of task t is allowed: the task is unstruck, and as the act asks
abbrev pub AllowedAct : Tree → TaskId → Act → Type 0
AllowedAct T t act = Unstruck T t (λ x. ActAsks T t x act)

-- an entry is allowed; the root is there to be released once, place 0 does not die, no place dies twice, and none joins beyond
-- the limit
abbrev pub Allowed : Tree → Entry → Type 0
Allowed T (Step t act batch) = AllowedAct T t act
Allowed T (Root lost masked thrown) =
    (g : Scope) × (scope_of T the_root ≡ Some g) × MayFree T the_root lost masked thrown
Allowed T (Death d) = (d.0 < T.places) × (d.0 ≢ 0) × (death_of T d ≡ None)
Allowed T (Join p) = (p.0 ≡ T.places) × (p.0 < length T.dead)

-- the task has left, and its faults have joined those of its scope
abbrev pub after_end : Tree → TaskId → List Fault → Tree
after_end T t thrown =
    elim (task_of T t) [
      | Some x ↦
          change_scope (λ g. record g { ends = g.ends ++ thrown }) x.under
          (record T { tasks = filter (λ y. not (is_task t y)) T.tasks })
      | None ↦ T
    ]

-- what an act of task t makes
abbrev pub made_act : Tree → TaskId → Act → Tree
made_act T t (Open s r path) = opened T t Finish s r
made_act T t (Calls from to s r callee path) =
    change_task waiting t (add_task (born T callee s from to) (opened T t Call s r))
made_act T t (Spawn child s from to path) = add_task (born T child s from to) T
made_act T t (Arrive p) = change_task (λ x. record x { place = At p }) t T
made_act T t (Wait s thrown) = change_task waiting t (change_scope (λ g. record g { body = thrown }) s T)
made_act T t (Release s lost masked thrown) = change_task resumed t (without T s)
made_act T t (End thrown) = after_end T t thrown
made_act T t (Print value path) = T
made_act T t (Census places path) = T

-- what entry n makes
abbrev pub made : ℕ → Tree → Entry → Tree
made n T (Step t act batch) = made_act T t act
made n T (Root lost masked thrown) = without T the_root
made n T (Death d) = strike (record { place = d; entry = n }) T
made n T (Join p) = widened T
