-- The root stands until its release.
use Rattle.std.proofs.Common.{◌≡◌, ℕ, suc, ◌<◌, ◌≤◌, Bool, true, ◌==◌, not, List, [], ◌∷◌, ◌++◌, filter, Option, Some, None, All, refl, ap, ◌∙◌, arith}
use Rattle.std.specs.List.{list_any}
use Rattle.std.proofs.lemmas.Bool.{eqb-true, or_right, false_from_ne_true}
use Rattle.rx_rules.proofs.Common.{TaskId, ScopeId, Fault, Tree, task_of, own_scope, is_scope, on_chain, the_root, made, made_act, after_end, AllowedAct, AllAllowed, wide_opening, fold_from, Reached, IsOlder, opens, NoRoot}
use Rattle.rx_rules.specs.declared.tasks.Task.{Task}
use Rattle.rx_rules.specs.declared.tasks.Scope.{Scope}
use Rattle.rx_rules.specs.declared.entries.Act.{Act}
use Rattle.rx_rules.specs.declared.entries.Act.TheVariants.{Open, At as Calls, Spawn, Arrive, Wait, Release, End, Print, Census}
use Rattle.rx_rules.specs.declared.entries.Entry.{Entry}
use Rattle.rx_rules.specs.declared.entries.Entry.TheVariants.{Step, Root, Death, Join}
use Rattle.rx_tree_laws.specs.Chains.{meets}
use Rattle.rx_tree_laws.specs.Sound.{Each, Sound}
use Rattle.rx_tree_laws.specs.Histories.{RootStands, WideRootStands}
use Rattle.rx_tree_laws.proofs.Stay.{any_faulted}
use Rattle.rx_tree_laws.proofs.Opening.{own_chain}
use Rattle.rx_tree_laws.proofs.Releasing.{on_meets, each_all}
use Rattle.rx_tree_laws.proofs.Reached.{sound}
use Rattle.rx_tree_laws.proofs.Histories.{reached_now, dead-now, none_yet_of}
use Rattle.rx_tree_laws.proofs.Below.{met_newer, find_kept, any_found, found_any}

abbrev Rooted : Tree → Type 0
Rooted T = list_any (is_scope the_root) T.scopes ≡ true

-- no release of a task's own scope takes the root
root_kept : (T : Tree) (t : TaskId) (s : ScopeId) (x : Task) (k : Scope) → Sound T → task_of T t ≡ Some x → own_scope T t ≡ Some k → k.number ≡ s → Rooted T → list_any (is_scope the_root) (filter (λ g. not (on_chain T s g.number)) T.scopes) ≡ true
root_kept T t s x k h stands own_is it r =
    let q : Scope → Bool = λ g. not (on_chain T s g.number) in
    let own = own_chain T.tasks T.next_scope T.scopes t x k h.falls h.opened stands own_is in
    let older : x.under.0 < k.number.0 = own.older in
    let is_it : k.number.0 ≡ s.0 = ap (λ (v : ScopeId). v.0) it in
    let found = found_any (is_scope the_root) T.scopes r in
    let stays : Each (λ k. is_scope the_root k ≡ true → q k ≡ true) T.scopes =
    each_all (λ k. is_scope the_root k ≡ true → q k ≡ true)
    (λ (k : Scope) e.
    ap not (on_meets s T.scopes (Some k.number) ∙ false_from_ne_true (meets s T.scopes (Some k.number)) (λ w.
    let le : s.0 ≤ k.number.0 = met_newer s T.next_scope T.scopes k.number h.falls w in
    let zero : k.number.0 ≡ 0 = eqb-true k.number.0 0 e in
    absurd (omega arith))))
    T.scopes
    in
    any_found (is_scope the_root) (filter q T.scopes) found.0 (find_kept (is_scope the_root) q T.scopes stays ∙ found.1)

root_ended : (T : Tree) (t : TaskId) (thrown : List Fault) → Rooted T → (o : Option Task) → task_of T t ≡ o → Rooted (after_end T t thrown)
root_ended T t thrown r (Some x) e = rw (e, after_end) (any_faulted (λ g. g.body) (λ g. g.ends ++ thrown) (is_scope x.under) (is_scope the_root) (λ g. refl) T.scopes ∙ r)
root_ended T t thrown r None e = rw (e, after_end) r

root_acts : (T : Tree) (t : TaskId) (act : Act) → Sound T → AllowedAct T t act → Rooted T → Rooted (made_act T t act)
root_acts T t (Open s p path) h may r = or_right (s.0 == 0) (list_any (is_scope the_root) T.scopes) r
root_acts T t (Calls from to s p callee path) h may r = or_right (s.0 == 0) (list_any (is_scope the_root) T.scopes) r
root_acts T t (Spawn child s from to path) h may r = r
root_acts T t (Arrive p) h may r = r
root_acts T t (Wait s thrown) h may r = any_faulted (λ g. thrown) (λ g. g.ends) (is_scope s) (is_scope the_root) (λ g. refl) T.scopes ∙ r
root_acts T t (Release s lost masked thrown) h may r = root_kept T t s may.task may.asks.1 h may.stands may.asks.2.0 may.asks.2.1 r
root_acts T t (End thrown) h may r = root_ended T t thrown r (task_of T t) refl
root_acts T t (Print value path) h may r = r
root_acts T t (Census places path) h may r = r

root_from : (n : ℕ) (T : Tree) (es : List Entry) → Reached T → All (IsOlder n) T.dead → AllAllowed n T es → NoRoot es → Rooted T → Rooted (fold_from n T es)
root_from n T [] r o h free st = st
root_from n T (Step t act batch ∷ es) r o h free st =
    root_from (suc n) (made n T (Step t act batch)) es (reached_now n T (Step t act batch) r o h.0) (dead-now n T (Step t act batch) o) h.1 free (root_acts T t act (sound r) h.0 st)
root_from n T (Root lost masked thrown ∷ es) r o h free st = absurd free
root_from n T (Join p ∷ es) r o h free st = root_from (suc n) (made n T (Join p)) es (reached_now n T (Join p) r o h.0) (dead-now n T (Join p) o) h.1 free st
root_from n T (Death d ∷ es) r o h free st = root_from (suc n) (made n T (Death d)) es (reached_now n T (Death d) r o h.0) (dead-now n T (Death d) o) h.1 free st

pub wide_root_stands : WideRootStands
wide_root_stands limit places es low high h free = found_any (is_scope the_root) (fold_from 0 (wide_opening limit places) es).scopes (root_from 0 (wide_opening limit places) es (opens places low high) (none_yet_of limit) h free refl)

pub root_stands : RootStands
root_stands = wide_root_stands 16
