-- What a release uncovers.
use Rattle.std.specs.Prelude.{◌≡◌, ℕ, List, Some}
use Rattle.rx_base.specs.declared.ids.TaskId.{TaskId}
use Rattle.rx_base.specs.declared.ids.ScopeId.{ScopeId}
use Rattle.rx_base.specs.declared.place_set.PlaceSet.{PlaceSet}
use Rattle.rx_base.specs.declared.values.Fault.{Fault}
use Rattle.rx_rules.specs.declared.entries.Act.TheVariants.{Release}
use Rattle.rx_rules.specs.declared.entries.Entry.{Entry}
use Rattle.rx_rules.specs.declared.tasks.Task.{Task}
use Rattle.rx_rules.specs.Tree.{task_of, inner}
use Rattle.rx_rules.specs.Entries.{AllowedAct, made_act}
use Rattle.rx_rules.specs.Fold.{tree_of}
use Rattle.rx_rules.specs.Run.{Given, Folds}
use Rattle.rx_chronicle.specs.Told.{parent_told}

-- after a release the inner scope of its task is the parent of the scope, as the entries tell it
abbrev pub UncoversParent : Type 0
UncoversParent =
    (U : Given) (es : List Entry) (t : TaskId) (s : ScopeId) (lost : PlaceSet) (masked : ℕ) (thrown : List Fault) (x : Task)
    → Folds U es → AllowedAct (tree_of U.places es) t (Release s lost masked thrown)
    → task_of (made_act (tree_of U.places es) t (Release s lost masked thrown)) t ≡ Some x
    → inner (made_act (tree_of U.places es) t (Release s lost masked thrown)) x ≡ parent_told es s
