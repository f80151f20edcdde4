-- The totals of a tree.
use Rattle.std.specs.Prelude.{◌≡◌, ℕ, Bool, not, ◌&&◌, length, count_by, take, is_none}
use Rattle.rx_rules.specs.declared.tasks.Task.{Task}
use Rattle.rx_rules.specs.Tree.{Tree}
use Rattle.rx_rules.specs.Fold.{opening, tree_of}
use Rattle.rx_rules.specs.Examples.{ordinary_case, loss_in_transit}
use Rattle.rx_finish.specs.declared.totals.Totals.{Totals}
use Rattle.rx_finish.specs.Callers.{does_travel}

-- the task is unstruck and at a place
abbrev pub is_live : Task → Bool
is_live x = is_none x.struck && not (does_travel x.place)

-- the task is unstruck and travels
abbrev pub is_travelling : Task → Bool
is_travelling x = is_none x.struck && does_travel x.place

-- how many scopes stand, how many unstruck tasks are at a place, and how many travel
abbrev pub totals_of : Tree → Totals
totals_of T =
    record {
      scopes = length T.scopes;
      live = count_by is_live T.tasks;
      travel = count_by is_travelling T.tasks;
    }

-- Worked totals.

abbrev totals : ℕ → ℕ → ℕ → Totals
totals scopes live travel = record { scopes = scopes; live = live; travel = travel }

-- a task is started, travels, and arrives, or is struck on its way; its finish is released, and then the root
pub record TotalsTell : Type 0 where
  pub before_the_first : (places : ℕ) → totals_of (opening places) ≡ totals 1 1 0
  pub opened : totals_of (tree_of 2 (take 1 ordinary_case)) ≡ totals 2 1 0
  pub on_its_way : totals_of (tree_of 2 (take 3 ordinary_case)) ≡ totals 2 1 1
  pub arrived : totals_of (tree_of 2 (take 4 ordinary_case)) ≡ totals 2 2 0
  pub struck : totals_of (tree_of 2 (take 4 loss_in_transit)) ≡ totals 2 1 0
  pub released : totals_of (tree_of 2 (take 5 loss_in_transit)) ≡ totals 1 1 0
  pub at_the_end : totals_of (tree_of 2 loss_in_transit) ≡ totals 0 0 0
