-- Trees of scripts, where there can be 16 places.
use Rattle.std.proofs.Common.{◌≡◌, ℕ, suc, List, [], ◌∷◌, ◌++◌, not, filter, length, Some, None, refl, ap, ◌∙◌, length-set}
use Rattle.std.specs.List.{range_with_len}
use Rattle.rx_rules.proofs.Common.{TaskId, Fault, Tree, is_task, task_of, places_of, all_places, made, made_act, after_end, change_scope, fold_from, tree_of, opening, lost_under}
use Rattle.rx_rules.specs.declared.entries.Act.{Act}
use Rattle.rx_rules.specs.declared.entries.Act.TheVariants.{Open, At as Calls, Spawn, Arrive, Wait, Release, End, Print, Census}
use Rattle.rx_rules.specs.declared.entries.Entry.{Entry}
use Rattle.rx_rules.specs.declared.entries.Entry.TheVariants.{Step, Root, Death, Join}

-- sixteen places are those of a set of places
pub sixteen_places : (T : Tree) → length T.dead ≡ 16 → places_of T ≡ all_places
sixteen_places T e = ap (range_with_len 0) e

-- no entry changes the limit

limit-end : (T : Tree) (t : TaskId) (thrown : List Fault) → length (after_end T t thrown).dead ≡ length T.dead
limit-end T t thrown =
    elim (task_of T t) as
    (λ o. length (elim o as (λ _. Tree) [
      | Some x ↦ change_scope (λ g. record g { ends = g.ends ++ thrown }) x.under (record T { tasks = filter (λ y. not (is_task t y)) T.tasks })
      | None ↦ T
    ]).dead ≡ length T.dead) [
      | Some x ↦ refl
      | None ↦ refl
    ]

pub limit-act : (T : Tree) (t : TaskId) (act : Act) → length (made_act T t act).dead ≡ length T.dead
limit-act T t (Open s r path) = refl
limit-act T t (Calls from to s r callee path) = refl
limit-act T t (Spawn child s from to path) = refl
limit-act T t (Arrive p) = refl
limit-act T t (Wait s thrown) = refl
limit-act T t (Release s lost masked thrown) = refl
limit-act T t (End thrown) = limit-end T t thrown
limit-act T t (Print value path) = refl
limit-act T t (Census places path) = refl

pub limit-made : (n : ℕ) (T : Tree) (e : Entry) → length (made n T e).dead ≡ length T.dead
limit-made n T (Step t act batch) = limit-act T t act
limit-made n T (Root lost masked thrown) = refl
limit-made n T (Death d) = length-set T.dead d.0 (Some n)
limit-made n T (Join p) = refl

pub limit-fold : (n : ℕ) (T : Tree) (es : List Entry) → length (fold_from n T es).dead ≡ length T.dead
limit-fold n T [] = refl
limit-fold n T (e ∷ es) = limit-fold (suc n) (made n T e) es ∙ limit-made n T e

-- so the tree of a script's history has 16
pub limit-tree : (places : ℕ) (es : List Entry) → length (tree_of places es).dead ≡ 16
limit-tree places es = limit-fold 0 (opening places) es
