-- What a chronicle keeps.
use Rattle.std.specs.Prelude.{◌≡◌, ℕ, ◌+◌, ◌<◌, ◌≤◌, Bool, List, map, length, slice_index_or}
use Rattle.rx_base.specs.declared.place_set.PlaceSet.{PlaceSet}
use Rattle.rx_rules.specs.declared.tasks.Scope.{Scope}
use Rattle.rx_rules.specs.declared.entries.Entry.{Entry}
use Rattle.rx_rules.specs.Tree.{Tree}
use Rattle.rx_rules.specs.Fold.{tree_of}
use Rattle.rx_rules.specs.Run.{Event, Given, in_all, plan_of, Proper, Folds}
use Rattle.rx_tree_laws.specs.Sound.{Each}
use Rattle.rx_runs.specs.Segments.{plan_left}
use Rattle.rx_runs.specs.Ties.{MayCome}
use Rattle.rx_history.specs.Logs.{Log}
use Rattle.rx_history.specs.Setups.{given}
use Rattle.rx_chronicle.specs.declared.notes.Note.{Note}
use Rattle.rx_chronicle.specs.Told.{parents_told, openers_told, left_to_join, Ending, HasDead}

-- there is a note for the scope, and it bounds the faults that the scope holds
abbrev pub Bounds : List ℕ → Scope → Type 0
Bounds counts g = (g.number.0 < length counts) × (length g.body + length g.ends ≤ slice_index_or counts g.number.0 0)

-- the notes tell the parent and the opener of each scope, and bound its faults
pub record Notes (es : List Entry) (T : Tree) (notes : List Note) : Type 0 where
  pub parents : map (λ n. n.parent) notes ≡ parents_told es
  pub openers : map (λ n. n.opener) notes ≡ openers_told es
  pub bounds : Each (Bounds (map (λ n. n.faults) notes)) T.scopes

-- The history has what a ledger can know; the ledger stands for the tree to which it folds, and has room for the joins that are left;
-- what is left of the plan, the dead places and the notes are those of the history.
pub record KeepsSo {L : Type 0} (stands : L → ℕ → Tree → Type 0) (U : Given) (ledger : L) (es : List Entry) (plan : List Event)
    (dead : PlaceSet) (ended : Bool) (notes : List Note) : Type 0 where
  pub proper : Proper U
  pub folds : Folds U es
  pub tree : stands ledger (left_to_join U es) (tree_of U.places es)
  pub left : plan ≡ plan_left (plan_of U) es
  pub come : MayCome (in_all U) (tree_of U.places es).places es plan
  pub ending : Ending ended es
  pub died : HasDead dead es
  pub noted : Notes es (tree_of U.places es) notes

-- the same of a history with its setup
abbrev pub Keeps : {L : Type 0} → (L → ℕ → Tree → Type 0) → Log → L → List Event → PlaceSet → Bool → List Note → Type 0
Keeps stands h ledger plan dead ended notes = KeepsSo stands (given h.setup) ledger h.entries plan dead ended notes
