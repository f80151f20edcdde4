-- What holds of each tree that can be reached.
use Rattle.std.specs.Prelude.{◌≡◌, ℕ, ◌<◌, ◌≤◌, true, false, ◌&&◌, ◌==◌, not, List, [], ◌∷◌, Option, Some, None, is_some}
use Rattle.std.specs.Prelude.{slice_index_or, length}
use Rattle.std.specs.List.{list_any}
use Rattle.rx_rules.specs.declared.tasks.Where.{Where}
use Rattle.rx_rules.specs.declared.tasks.Where.TheVariants.{At, Travel}
use Rattle.rx_rules.specs.declared.tasks.Task.{Task}
use Rattle.rx_rules.specs.declared.tasks.Scope.{Scope}
use Rattle.rx_rules.specs.Tree.{Tree, is_scope, is_finish, the_root}
use Rattle.rx_rules.specs.Reached.{Reached}
use Rattle.rx_tree_laws.specs.Blows.{blow_at}
use Rattle.rx_tree_laws.specs.Chains.{meets, Falls, Opened}

-- each element has the property
abbrev pub Each : {X : Type 0} → (X → Type 0) → List X → Type 0
Each P [] = Unit {0}
Each P (x ∷ xs) = P x × Each P xs

-- task numbers fall, as those of scopes
abbrev pub TasksFall : ℕ → List Task → Type 0
TasksFall n [] = Unit {0}
TasksFall n (x ∷ xs) = (x.number.0 < n) × TasksFall x.number.0 xs

-- the places are below n
abbrev pub Inside : ℕ → Where → Type 0
Inside n (At p) = p.0 < n
Inside n (Travel from to) = (from.0 < n) × (to.0 < n)

-- a task of the tree
pub record TaskFits (dead : List (Option ℕ)) (places : ℕ) (scopes : List Scope) (x : Task) : Type 0 where
  -- a place tells whether it is struck, and by which death
  pub struck : x.struck ≡ blow_at dead x.place
  pub inside : Inside places x.place
  pub rooted : meets the_root scopes (Some x.under) ≡ true

-- a struck task that a release has removed
pub record LeftFits (dead : List (Option ℕ)) (x : Task) : Type 0 where
  pub struck : x.struck ≡ blow_at dead x.place
  pub is_struck : is_some x.struck ≡ true

-- numbers of tasks and scopes fall, tasks are struck as their places tell, and every chain leads to the root, which is a
-- finish at place 0, which lives; no more places are there than there can be
pub record Sound (T : Tree) : Type 0 where
  pub falls : Falls T.next_scope T.scopes
  pub opened : Opened T.tasks T.scopes
  pub tasks_fall : TasksFall T.next_task T.tasks
  pub tasks : Each (TaskFits T.dead T.places T.scopes) T.tasks
  pub gone : Each (LeftFits T.dead) T.gone
  pub zero_lives : slice_index_or T.dead 0 None ≡ None
  pub root_home : list_any (λ g. is_scope the_root g && not (g.home.0 == 0)) T.scopes ≡ false
  pub root_kind : list_any (λ g. is_scope the_root g && not (is_finish g.kind)) T.scopes ≡ false
  pub numbered : 1 ≤ T.next_scope
  pub few : T.places ≤ length T.dead

-- each tree that can be reached is sound
abbrev pub ReachedSound : Type 0
ReachedSound = (T : Tree) → Reached T → Sound T
