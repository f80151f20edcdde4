-- Histories with one entry more, and what each entry leaves.
use Rattle.std.proofs.Common.{◌≡◌, ℕ, suc, ◌+◌, List, [], ◌∷◌, ◌++◌, length, filter, not, Option, Some, None, refl, ap, ◌∙◌, arith}
use Rattle.rx_rules.proofs.Common.{PlaceSet, PlaceId, TaskId, Fault, Tree, is_task, task_of, made, made_act, after_end, change_scope, fold_from, tree_of, opening, NoRoot, EndsWithRoot}
use Rattle.rx_rules.specs.declared.entries.Act.{Act}
use Rattle.rx_rules.specs.declared.entries.Act.TheVariants.{Open, At as Calls, Spawn, Arrive, Wait, Release, End, Print, Census}
use Rattle.rx_rules.specs.declared.entries.Entry.{Entry}
use Rattle.rx_rules.specs.declared.entries.Entry.TheVariants.{Step, Root, Death, Join}
use Rattle.rx_rules.specs.declared.tasks.Task.{Task}

-- The tree of a longer history.

pub fold-push : (n : ℕ) (T : Tree) (es : List Entry) (e : Entry) → fold_from n T (es ++ e ∷ []) ≡ made (n + length es) (fold_from n T es) e
fold-push n T [] e = let h : n + 0 ≡ n = omega arith in rw h
fold-push n T (x ∷ es) e =
    let h : suc n + length es ≡ n + length (x ∷ es) = omega arith in
    fold-push (suc n) (made n T x) es e ∙ ap (λ k. made k (fold_from (suc n) (made n T x) es) e) h

pub tree-push : (places : ℕ) (es : List Entry) (e : Entry) → tree_of places (es ++ e ∷ []) ≡ made (length es) (tree_of places es) e
tree-push places es e = fold-push 0 (opening places) es e ∙ ap (λ k. made k (tree_of places es) e) (let h : 0 + length es ≡ length es = omega arith in h)

-- The root.

pub no_root-push : (es : List Entry) (e : Entry) → NoRoot es → NoRoot (e ∷ []) → NoRoot (es ++ e ∷ [])
no_root-push [] e h k = k
no_root-push (Step t act batch ∷ es) e h k = no_root-push es e h k
no_root-push (Root lost masked thrown ∷ es) e h k = h
no_root-push (Death d ∷ es) e h k = no_root-push es e h k
no_root-push (Join p ∷ es) e h k = no_root-push es e h k

pub no_root-death : (es : List Entry) (d : PlaceId) → NoRoot es → NoRoot (es ++ Death d ∷ [])
no_root-death es d h = no_root-push es (Death d) h tt

pub root-push : (es : List Entry) (lost : PlaceSet) (masked : ℕ) (thrown : List Fault) → NoRoot es → EndsWithRoot (es ++ Root lost masked thrown ∷ [])
root-push [] lost masked thrown h = refl
root-push (Step t act batch ∷ es) lost masked thrown h = root-push es lost masked thrown h
root-push (Root l m f ∷ es) lost masked thrown h = absurd h
root-push (Death d ∷ es) lost masked thrown h = root-push es lost masked thrown h
root-push (Join p ∷ es) lost masked thrown h = root-push es lost masked thrown h

-- What the end of a task leaves.

pub end-tasks : (T : Tree) (t : TaskId) (thrown : List Fault) (x : Task) → task_of T t ≡ Some x → (after_end T t thrown).tasks ≡ filter (λ y. not (is_task t y)) T.tasks
end-tasks T t thrown x h = rw (h, after_end) refl

-- A join alone changes how many places there are.

pub end-places : (T : Tree) (t : TaskId) (thrown : List Fault) → (after_end T t thrown).places ≡ T.places
end-places T t thrown = of_found (task_of T t)
  where
    of_found : (o : Option Task) → (let V : Tree = elim o as (λ _. Tree) [ Some x ↦ change_scope (λ g. record g { ends = g.ends ++ thrown }) x.under (record T { tasks = filter (λ y. not (is_task t y)) T.tasks }) | None ↦ T ] in V.places) ≡ T.places
    of_found (Some x) = refl
    of_found None = refl

pub act-places : (T : Tree) (t : TaskId) (act : Act) → (made_act T t act).places ≡ T.places
act-places T t (Open s r path) = refl
act-places T t (Calls from to s r callee path) = refl
act-places T t (Spawn child s from to path) = refl
act-places T t (Arrive p) = refl
act-places T t (Wait s thrown) = refl
act-places T t (Release s lost masked thrown) = refl
act-places T t (End thrown) = end-places T t thrown
act-places T t (Print value path) = refl
act-places T t (Census n path) = refl

-- how many places join
pub joins_in : List Entry → ℕ
joins_in [] = 0
joins_in (Step t act batch ∷ es) = joins_in es
joins_in (Root lost masked thrown ∷ es) = joins_in es
joins_in (Death d ∷ es) = joins_in es
joins_in (Join p ∷ es) = suc (joins_in es)

pub fold-places : (n : ℕ) (T : Tree) (es : List Entry) → (fold_from n T es).places ≡ T.places + joins_in es
unfolding joins_in
fold-places n T [] = omega arith
fold-places n T (Step t act batch ∷ es) = let h = fold-places (suc n) (made n T (Step t act batch)) es in let e = act-places T t act in omega (arith, h, e)
fold-places n T (Root lost masked thrown ∷ es) = fold-places (suc n) (made n T (Root lost masked thrown)) es
fold-places n T (Death d ∷ es) = fold-places (suc n) (made n T (Death d)) es
fold-places n T (Join p ∷ es) = let h = fold-places (suc n) (made n T (Join p)) es in omega (arith, h)

pub tree-places : (places : ℕ) (es : List Entry) → (tree_of places es).places ≡ places + joins_in es
tree-places places es = fold-places 0 (opening places) es
