-- The next task number of a fold counts the births.
use Rattle.std.proofs.Common.{◌≡◌, ℕ, suc, ◌+◌, List, [], ◌∷◌, ◌++◌, not, filter, Some, None, refl, sym, subst, ◌∙◌, arith, add-zero, add-one}
use Rattle.std.proofs.lemmas.List.Sums.{sum_by-cons}
use Rattle.rx_rules.proofs.Common.{Fault, TaskId, Tree, is_task, task_of, made, after_end, change_scope, AllAllowed, births, births_of, fold_from, tree_of, opening, wide_opening}
use Rattle.rx_rules.specs.declared.entries.Act.TheVariants.{Open, At as Calls, Spawn, Arrive, Wait, Release, End, Print, Census}
use Rattle.rx_rules.specs.declared.entries.Entry.{Entry}
use Rattle.rx_rules.specs.declared.entries.Entry.TheVariants.{Step, Root, Death, Join}
use Rattle.rx_rules.specs.Inversions.{NumbersInOrder, CountFrom, born_in, opened_in}
use Rattle.std.specs.List.{filter_map}

pub next-after_end : (T : Tree) (t : TaskId) (thrown : List Fault) → (after_end T t thrown).next_task ≡ T.next_task
next-after_end T t thrown =
    elim (task_of T t) as
    (λ o. (elim o as (λ _. Tree) [
      | Some x ↦ change_scope (λ g. record g { ends = g.ends ++ thrown }) x.under (record T { tasks = filter (λ y. not (is_task t y)) T.tasks })
      | None ↦ T
    ]).next_task ≡ T.next_task) [
      | Some x ↦ refl
      | None ↦ refl
    ]

pub next-made : (n : ℕ) (T : Tree) (e : Entry) → (made n T e).next_task ≡ T.next_task + births_of e
next-made n T (Step t (Open s r path) batch) = sym (add-zero T.next_task)
next-made n T (Step t (Calls from to s r callee path) batch) = sym (add-one T.next_task)
next-made n T (Step t (Spawn child s from to path) batch) = sym (add-one T.next_task)
next-made n T (Step t (Arrive p) batch) = sym (add-zero T.next_task)
next-made n T (Step t (Wait s thrown) batch) = sym (add-zero T.next_task)
next-made n T (Step t (Release s lost masked thrown) batch) = sym (add-zero T.next_task)
next-made n T (Step t (End thrown) batch) = next-after_end T t thrown ∙ sym (add-zero T.next_task)
next-made n T (Step t (Print value path) batch) = sym (add-zero T.next_task)
next-made n T (Step t (Census places path) batch) = sym (add-zero T.next_task)
next-made n T (Root lost masked thrown) = sym (add-zero T.next_task)
next-made n T (Join joined) = sym (add-zero T.next_task)
next-made n T (Death d) = sym (add-zero T.next_task)

pub next-fold : (n : ℕ) (T : Tree) (es : List Entry) → (fold_from n T es).next_task ≡ T.next_task + births es
next-fold n T [] = sym (add-zero T.next_task)
next-fold n T (e ∷ es) =
    let here : births (e ∷ es) ≡ births_of e + births es = sum_by-cons births_of e es in
    let rest : (fold_from n T (e ∷ es)).next_task ≡ (made n T e).next_task + births es = next-fold (suc n) (made n T e) es in
    omega (arith, next-made n T e)

-- the next task number of a history is one more than its births
pub next-tree : (places : ℕ) (es : List Entry) → (tree_of places es).next_task ≡ 1 + births es
next-tree places es = next-fold 0 (opening places) es

pub scope-after_end : (T : Tree) (t : TaskId) (thrown : List Fault) → (after_end T t thrown).next_scope ≡ T.next_scope
scope-after_end T t thrown =
    elim (task_of T t) as
    (λ o. (elim o as (λ _. Tree) [
      | Some x ↦ change_scope (λ g. record g { ends = g.ends ++ thrown }) x.under (record T { tasks = filter (λ y. not (is_task t y)) T.tasks })
      | None ↦ T
    ]).next_scope ≡ T.next_scope) [
      | Some x ↦ refl
      | None ↦ refl
    ]

-- tasks and scopes are numbered on from the next numbers of the tree
number-from : (n : ℕ) (T : Tree) (es : List Entry) → AllAllowed n T es → CountFrom T.next_task (filter_map born_in es) × CountFrom T.next_scope (filter_map opened_in es)
number-from n T [] h = (tt, tt)
number-from n T (Step t (Open s r path) batch ∷ es) h =
    let more = number-from (suc n) (made n T (Step t (Open s r path) batch)) es h.1 in (more.0, (h.0.asks.1, more.1))
number-from n T (Step t (Calls from to s r callee path) batch ∷ es) h =
    let more = number-from (suc n) (made n T (Step t (Calls from to s r callee path) batch)) es h.1 in ((h.0.asks.3, more.0), (h.0.asks.1, more.1))
number-from n T (Step t (Spawn child s from to path) batch ∷ es) h =
    let more = number-from (suc n) (made n T (Step t (Spawn child s from to path) batch)) es h.1 in ((h.0.asks.1, more.0), more.1)
number-from n T (Step t (Arrive p) batch ∷ es) h = number-from (suc n) (made n T (Step t (Arrive p) batch)) es h.1
number-from n T (Step t (Wait s thrown) batch ∷ es) h = number-from (suc n) (made n T (Step t (Wait s thrown) batch)) es h.1
number-from n T (Step t (Release s lost masked thrown) batch ∷ es) h = number-from (suc n) (made n T (Step t (Release s lost masked thrown) batch)) es h.1
number-from n T (Step t (End thrown) batch ∷ es) h =
    let more = number-from (suc n) (made n T (Step t (End thrown) batch)) es h.1 in
    (subst (λ (k : ℕ). CountFrom k (filter_map born_in es)) (next-after_end T t thrown) more.0, subst (λ (k : ℕ). CountFrom k (filter_map opened_in es)) (scope-after_end T t thrown) more.1)
number-from n T (Step t (Print value path) batch ∷ es) h = number-from (suc n) (made n T (Step t (Print value path) batch)) es h.1
number-from n T (Step t (Census places path) batch ∷ es) h = number-from (suc n) (made n T (Step t (Census places path) batch)) es h.1
number-from n T (Root lost masked thrown ∷ es) h = number-from (suc n) (made n T (Root lost masked thrown)) es h.1
number-from n T (Join p ∷ es) h = number-from (suc n) (made n T (Join p)) es h.1
number-from n T (Death d ∷ es) h = number-from (suc n) (made n T (Death d)) es h.1

pub numbers-in_order : NumbersInOrder
numbers-in_order limit places es h = number-from 0 (wide_opening limit places) es h
