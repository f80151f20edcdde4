-- What a pick says of the task, and that the tree of a game can be reached.
use Rattle.std.proofs.Common.{◌≡◌, ℕ, zero, suc, true, not, ◌&&◌, ◌||◌, List, [], ◌∷◌, filter, slice_get, Some, None, is_none, subst}
use Rattle.std.specs.List.{find}
use Rattle.std.proofs.lemmas.Bool.{and_parts}
use Rattle.rx_base.proofs.Options.{none-from}
use Rattle.rx_rules.proofs.Common.{Block, Tree, is_task, task_of, quiet, inner, Reached, Given, Game, is_enabled, enabled, tree_in}
use Rattle.rx_rules.specs.declared.tasks.Task.{Task}
use Rattle.rx_tree_laws.specs.Sound.{Each, Sound}
use Rattle.rx_tree_laws.proofs.Changes.{each_filter}
use Rattle.rx_tree_laws.proofs.Reached.{sound}
use Rattle.rx_tree_laws.proofs.Histories.{fold_reached}
use Rattle.rx_tree_laws.proofs.Waiting.{each_stands}
use Rattle.rx_runs.specs.Games.{GameOk}
use Rattle.rx_runs.proofs.Keeping.{reverse_at, filter_at}

pub reached_in : (code : Block) (U : Given) (G : Game) → GameOk code U G → Reached (tree_in U G)
reached_in code U G ok = fold_reached U.places G.entries ok.folds.some ok.folds.few ok.folds.allowed

pub each_at : {X : Type 0} (P : X → Type 0) (xs : List X) (i : ℕ) (x : X) → Each P xs → slice_get xs i ≡ Some x → P x
each_at P [] i x h e = cc
each_at P (y ∷ ys) zero x h e = let same : y ≡ x = cc in subst P same h.0
each_at P (y ∷ ys) (suc i) x h e = each_at P ys i x h.1 e

pub record Pick (T : Tree) (x : Task) : Type 0 where
  pub stands : task_of T x.number ≡ Some x
  pub free : x.struck ≡ None
  pub able : not x.waits || quiet T (inner T x) ≡ true

pub picked_task : (T : Tree) (i : ℕ) (x : Task) → Reached T → slice_get (enabled T) i ≡ Some x → Pick T x
picked_task T i x r h =
    let s : Sound T = sound r in
    let at = reverse_at (filter (is_enabled T) T.tasks) i x h in
    let able : (is_none x.struck && (not x.waits || quiet T (inner T x))) ≡ true = filter_at (is_enabled T) T.tasks at.0 x at.1 in
    let parts = and_parts (is_none x.struck) (not x.waits || quiet T (inner T x)) able in
    record {
      stands = each_at (λ (y : Task). find (is_task y.number) T.tasks ≡ Some y) (filter (is_enabled T) T.tasks) at.0 x (each_filter (λ (y : Task). find (is_task y.number) T.tasks ≡ Some y) (is_enabled T) T.tasks (each_stands T.next_task T.tasks s.tasks_fall)) at.1;
      free = none-from x.struck parts.0;
      able = parts.1;
    }
