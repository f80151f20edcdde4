-- After the root's release no task is left, so none can act, and the root is not released twice.
use Rattle.std.proofs.Common.{◌≡◌, Bool, true, false, List, [], ◌∷◌, ◌++◌, Some, None, ap, ◌∙◌, sym}
use Rattle.rx_rules.proofs.Common.{TaskId, is_task, AllowedAct, opening, tree_of, opens, Given, Folds, NoRoot, EndsWithRoot}
use Rattle.rx_rules.specs.declared.tasks.Task.{Task}
use Rattle.rx_rules.specs.declared.entries.Act.{Act}
use Rattle.rx_rules.specs.declared.entries.Entry.{Entry}
use Rattle.rx_rules.specs.declared.entries.Entry.TheVariants.{Step, Root, Death, Join}
use Rattle.rx_rules.proofs.Append.{no_root-push}
use Rattle.rx_tree_laws.proofs.Histories.{none_yet}
use Rattle.rx_runs.proofs.Endings.{empty_at_end}
use Rattle.std.specs.List.{find}
use Rattle.rx_chronicle.specs.Told.{Ending}

pub none_acts : (U : Given) (es : List Entry) (t : TaskId) (act : Act) → Folds U es → EndsWithRoot es → AllowedAct (tree_of U.places es) t act → ⊥
none_acts U es t act folds ends may =
    let empty = empty_at_end 0 (opening U.places) es (opens U.places folds.some folds.few) none_yet folds.allowed ends in
    let gone : None ≡ Some may.task = sym (ap (λ (xs : List Task). find (is_task t) xs) empty) ∙ may.stands in
    absurd (let v : ⊥ = cc in v)

pub root_or_none : (es : List Entry) → EndsWithRoot es → NoRoot es → ⊥
root_or_none [] e n = e
root_or_none (Step t act batch ∷ es) e n = root_or_none es e n
root_or_none (Root lost masked thrown ∷ es) e n = n
root_or_none (Death d ∷ es) e n = root_or_none es e n
root_or_none (Join d ∷ es) e n = root_or_none es e n

-- an entry that does not release the root leaves it unreleased
pub stays_open : (e : Bool) (es : List Entry) (x : Entry) → Ending e es → NoRoot es → NoRoot (x ∷ []) → Ending e (es ++ x ∷ [])
stays_open false es x h n m = no_root-push es x n m
stays_open true es x h n m = absurd (root_or_none es h n)
