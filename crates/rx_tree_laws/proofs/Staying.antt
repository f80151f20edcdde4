-- Acts of other tasks leave a task enabled, or not, as it was.
use Rattle.std.proofs.Common.{◌≡◌, ◌≢◌, ℕ, ◌<◌, Bool, true, false, cond, not, ◌||◌, ◌&&◌, ◌==◌, List, [], ◌∷◌, ◌++◌, filter, Option, Some, None, is_none, is_some, refl, sym, ap, ◌∙◌, subst, arith}
use Rattle.std.specs.List.{find, list_any}
use Rattle.std.proofs.Math.Bool.{and-true}
use Rattle.std.proofs.lemmas.Bool.{eqb-true, eq-eqb, ne_eqb, true≢false, or_right, or_parts, and_right, and_parts, false_from_ne_true, not-true}
use Rattle.rx_rules.proofs.Common.{TaskId, ScopeId, Fault, Tree, is_task, task_of, is_scope, wants, opened_by, own_scope, on_chain, is_under, quiet, inner, is_finish, chain_in, governing_in, the_root, change_first, change_scope, waiting, resumed, without, born, opened, home_for, after_end, AllowedAct, made_act, is_enabled, Reached}
use Rattle.rx_base.proofs.SameIds.{task-is}
use Rattle.rx_rules.specs.declared.tasks.Where.TheVariants.{At}
use Rattle.rx_rules.specs.declared.tasks.Blow.{Blow}
use Rattle.rx_rules.specs.declared.tasks.Task.{Task}
use Rattle.rx_rules.specs.declared.tasks.Scope.{Scope}
use Rattle.rx_rules.specs.declared.tasks.Kind.{Kind}
use Rattle.rx_rules.specs.declared.tasks.Kind.TheVariants.{Finish, Call}
use Rattle.rx_rules.specs.declared.entries.Act.{Act}
use Rattle.rx_rules.specs.declared.entries.Act.TheVariants.{Open, At as Calls, Spawn, Arrive, Wait, Release, End, Print, Census}
use Rattle.rx_rules.proofs.Lookups.{number-of}
use Rattle.rx_tree_laws.specs.Chains.{meets, Falls}
use Rattle.rx_tree_laws.specs.Sound.{Each, TasksFall, TaskFits, Sound}
use Rattle.rx_tree_laws.specs.Enabling.{able_in, able, OthersStay}
use Rattle.rx_tree_laws.proofs.Changes.{each_more, each_found}
use Rattle.rx_tree_laws.proofs.Chains.{met_start, meets_skips}
use Rattle.rx_tree_laws.proofs.Stay.{faulted, meets_faulted, fall_filter}
use Rattle.rx_tree_laws.proofs.Reach.{task_below}
use Rattle.rx_tree_laws.proofs.Opening.{inner_fits, governs_rooted, met_head}
use Rattle.rx_tree_laws.proofs.Releasing.{meets_filter, passes_marks, each_none, drops, leaves, on_meets, each_below, stayer_free, each_all, none_is_not}
use Rattle.rx_tree_laws.proofs.Reached.{sound, stays_at_release}
use Rattle.rx_tree_laws.proofs.Below.{one_opener, free_of}
use Rattle.rx_tree_laws.proofs.Owning.{release_spares}
use Rattle.rx_tree_laws.proofs.Waiting.{waiter_owns}
use Rattle.rx_tree_laws.proofs.Enabling.{inner_is}

-- Lists.

-- a change of another task
pub find_unchanged : (t n : TaskId) (f : Task → Task) → ((x : Task) → (f x).number ≡ x.number) → n.0 ≢ t.0 → (xs : List Task) → find (is_task n) (change_first (is_task t) f xs) ≡ find (is_task n) xs
find_unchanged t n f same apart [] = refl
find_unchanged t n f same apart (x ∷ xs) =
    (elim (is_task t x) as (λ b. is_task t x ≡ b → find (is_task n) (cond b (f x ∷ xs) (x ∷ change_first (is_task t) f xs)) ≡ find (is_task n) (x ∷ xs)) [
      | true ↦ λ e.
          let mine : x.number.0 ≡ t.0 = eqb-true x.number.0 t.0 e in
          let off : is_task n x ≡ false = ne_eqb x.number.0 n.0 (λ k. apart (sym k ∙ mine)) in
          let off2 : is_task n (f x) ≡ false = ap (λ (v : TaskId). v.0 == n.0) (same x) ∙ off in
          rw (off, off2) refl
      | false ↦ λ e. ap (λ o. cond (is_task n x) (Some x) o) (find_unchanged t n f same apart xs)
    ]) refl

any_changed : {X : Type 0} (p q : X → Bool) (f : X → X) → ((x : X) → p (f x) ≡ p x) → (xs : List X) → list_any p (change_first q f xs) ≡ list_any p xs
any_changed p q f same [] = refl
any_changed p q f same (x ∷ xs) =
    elim (q x) as (λ b. list_any p (cond b (f x ∷ xs) (x ∷ change_first q f xs)) ≡ list_any p (x ∷ xs)) [
      | true ↦ ap (λ v. v || list_any p xs) (same x)
      | false ↦ ap (λ v. p x || v) (any_changed p q f same xs)
    ]

pub any_same : {X : Type 0} (p q : X → Bool) (xs : List X) → Each (λ x. p x ≡ q x) xs → list_any p xs ≡ list_any q xs
any_same p q [] h = refl
any_same p q (x ∷ xs) h = ap (λ v. v || list_any p xs) h.0 ∙ ap (λ v. q x || v) (any_same p q xs h.1)

-- a filter that takes only elements which do not count
pub any_kept : {X : Type 0} (p q r : X → Bool) (xs : List X) → Each (λ x. (r x ≡ true → p x ≡ q x) × (r x ≡ false → q x ≡ false)) xs → list_any p (filter r xs) ≡ list_any q xs
any_kept p q r [] h = refl
any_kept p q r (x ∷ xs) h =
    (elim (r x) as (λ b. r x ≡ b → list_any p (cond b (x ∷ filter r xs) (filter r xs)) ≡ (q x || list_any q xs)) [
      | true ↦ λ e. ap (λ v. v || list_any p (filter r xs)) (h.0.0 e) ∙ ap (λ v. q x || v) (any_kept p q r xs h.1)
      | false ↦ λ e. any_kept p q r xs h.1 ∙ sym (ap (λ v. v || list_any q xs) (h.0.1 e))
    ]) refl

absorbed : (b c : Bool) → (b ≡ true → c ≡ true) → (b || c) ≡ c
absorbed true c h = sym (h refl)
absorbed false c h = refl

-- what is found in a filtered list is found in the list, where numbers fall
pub find_unfiltered : (r : Task → Bool) (t : TaskId) (n : ℕ) (xs : List Task) (y : Task) → TasksFall n xs → find (is_task t) (filter r xs) ≡ Some y → find (is_task t) xs ≡ Some y
find_unfiltered r t n [] y f e = e
find_unfiltered r t n (x ∷ xs) y f e =
    (elim (r x) as (λ b. find (is_task t) (cond b (x ∷ filter r xs) (filter r xs)) ≡ Some y → cond (is_task t x) (Some x) (find (is_task t) xs) ≡ Some y) [
      | true ↦ λ k.
          (elim (is_task t x) as (λ c. cond c (Some x) (find (is_task t) (filter r xs)) ≡ Some y → cond c (Some x) (find (is_task t) xs) ≡ Some y) [
            | true ↦ λ j. j
            | false ↦ λ j. find_unfiltered r t x.number.0 xs y f.1 j
          ]) k
      | false ↦ λ k.
          (elim (is_task t x) as (λ c. is_task t x ≡ c → cond c (Some x) (find (is_task t) xs) ≡ Some y) [
            | true ↦ λ w.
                let same : x.number.0 ≡ t.0 = eqb-true x.number.0 t.0 w in
                let low : t.0 < x.number.0 = task_below x.number.0 (filter r xs) t y (fall_filter r x.number.0 xs f.1) k in
                absurd (omega (arith, same, low))
            | false ↦ λ w. find_unfiltered r t x.number.0 xs y f.1 k
          ]) refl
    ]) e

-- who has left is not found
left_off : (T : Tree) (t : TaskId) (thrown : List Fault) (y : Task) → task_of (after_end T t thrown) t ≡ Some y → ⊥
left_off T t thrown y e =
    (elim (task_of T t) as (λ o. task_of T t ≡ o → find (is_task t) (elim o as (λ _. Tree) [ Some x ↦ change_scope (λ g. record g { ends = g.ends ++ thrown }) x.under (record T { tasks = filter (λ z. not (is_task t z)) T.tasks }) | None ↦ T ]).tasks ≡ Some y → ⊥) [
      | Some x ↦ λ k a. let f : None ≡ Some y = sym (gone T.tasks) ∙ a in cc
      | None ↦ λ k a. let f : None ≡ Some y = sym k ∙ a in cc
    ]) refl e
  where
    gone : (xs : List Task) → find (is_task t) (filter (λ z. not (is_task t z)) xs) ≡ None
    gone [] = refl
    gone (x ∷ xs) =
        (elim (is_task t x) as (λ b. is_task t x ≡ b → find (is_task t) (cond (not b) (x ∷ filter (λ z. not (is_task t z)) xs) (filter (λ z. not (is_task t z)) xs)) ≡ None) [
          | true ↦ λ w. gone xs
          | false ↦ λ w. rw w (gone xs)
        ]) refl

-- Quiet scopes.

-- an unstruck task is under the scope
abbrev pub busy : List Scope → List Task → ScopeId → Bool
busy gs ts s = list_any (λ x. meets s gs (Some x.under) && is_none x.struck) ts

quiet_busy : (T : Tree) (s : ScopeId) → quiet T s ≡ not (busy T.scopes T.tasks s)
quiet_busy T s = ap not (any_same (λ x. is_under T s x && is_none x.struck) (λ x. meets s T.scopes (Some x.under) && is_none x.struck) T.tasks (all T.tasks)) where
  all : (xs : List Task) → Each (λ x. (is_under T s x && is_none x.struck) ≡ (meets s T.scopes (Some x.under) && is_none x.struck)) xs
  all [] = tt
  all (x ∷ xs) = (ap (λ b. b && is_none x.struck) (on_meets s T.scopes (Some x.under)), all xs)

pub quiet_as : (T T' : Tree) (s : ScopeId) → busy T'.scopes T'.tasks s ≡ busy T.scopes T.tasks s → quiet T' s ≡ quiet T s
quiet_as T T' s e = quiet_busy T' s ∙ (ap not e ∙ sym (quiet_busy T s))

not_off : (b : Bool) → (not b ≡ true → ⊥) → b ≡ true
not_off true h = refl
not_off false h = absurd (h refl)

-- where another task works in or below an own scope of n, that scope is not quiet
works_below : (T : Tree) (t n : TaskId) (y : Task) (g : Scope) → Sound T → task_of T t ≡ Some y → y.struck ≡ None → own_scope T n ≡ Some g → n.0 ≢ t.0 → meets g.number T.scopes (Some (inner T y)) ≡ true → busy T.scopes T.tasks g.number ≡ true
works_below T t n y g h found free own apart m =
    let none : list_any (λ k. is_scope g.number k && opened_by t k) T.scopes ≡ false = false_from_ne_true (list_any (λ k. is_scope g.number k && opened_by t k) T.scopes) (λ a. apart (sym (one_opener T.next_scope T.scopes n t g h.falls own a))) in
    let under : meets g.number T.scopes (Some y.under) ≡ true = (inner_fits T t y h found).above g.number m none in
    not_off (busy T.scopes T.tasks g.number) (λ e. true≢false (sym under ∙ free_of T g.number t y (quiet_busy T g.number ∙ e) found free))

-- who is below the governing scope is below the scope from which one walks to it
governs_meets : (s : ScopeId) (n : ℕ) (gs : List Scope) (want : Option ScopeId) → Falls n gs → list_any (λ g. is_scope the_root g && not (is_finish g.kind)) gs ≡ false → meets the_root gs want ≡ true → meets s gs (Some (governing_in gs want)) ≡ true → meets s gs want ≡ true
governs_meets s n [] want f k m a = absurd (true≢false (sym m))
governs_meets s n (g ∷ gs) want f k m a =
    let parts = or_parts (is_scope the_root g && not (is_finish g.kind)) (list_any (λ g. is_scope the_root g && not (is_finish g.kind)) gs) k in
    (elim (wants want g) as (λ c. cond c (is_scope the_root g || meets the_root gs g.parent) (meets the_root gs want) ≡ true → meets s (g ∷ gs) (Some (elim (find (λ g. is_finish g.kind) (cond c (g ∷ chain_in gs g.parent) (chain_in gs want))) as (λ _. ScopeId) [ Some h ↦ h.number | None ↦ the_root ])) ≡ true → cond c (is_scope s g || meets s gs g.parent) (meets s gs want) ≡ true) [
      | true ↦ λ m2.
          (elim (is_finish g.kind) as (λ b. is_finish g.kind ≡ b → meets s (g ∷ gs) (Some (elim (cond b (Some g) (find (λ g. is_finish g.kind) (chain_in gs g.parent))) as (λ _. ScopeId) [ Some h ↦ h.number | None ↦ the_root ])) ≡ true → (is_scope s g || meets s gs g.parent) ≡ true) [
            | true ↦ λ q a2. sym (met_head s g gs) ∙ a2
            | false ↦ λ q a2.
                let apart : is_scope the_root g ≡ false = sym (and-true (is_scope the_root g)) ∙ sym (ap (λ b. is_scope the_root g && not b) q) ∙ parts.0 in
                let m3 : meets the_root gs g.parent ≡ true = sym (ap (λ b. b || meets the_root gs g.parent) apart) ∙ m2 in
                let r = governs_rooted g.number.0 gs g.parent f.1 parts.1 m3 in
                let low = met_start the_root g.number.0 gs (governing_in gs g.parent) f.1 r in
                or_right (is_scope s g) (meets s gs g.parent) (governs_meets s g.number.0 gs g.parent f.1 parts.1 m3 (sym (meets_skips s g gs (governing_in gs g.parent) low) ∙ a2))
          ]) refl
      | false ↦ λ m2 a2.
          let r = governs_rooted g.number.0 gs want f.1 parts.1 m2 in
          let low = met_start the_root g.number.0 gs (governing_in gs want) f.1 r in
          governs_meets s g.number.0 gs want f.1 parts.1 m2 (sym (meets_skips s g gs (governing_in gs want) low) ∙ a2)
    ]) m a

-- a newer scope changes nothing for the tasks that there are
newer : (T : Tree) (g : Scope) (s : ScopeId) → Sound T → g.number.0 ≡ T.next_scope → busy (g ∷ T.scopes) T.tasks s ≡ busy T.scopes T.tasks s
newer T g s h e =
    any_same (λ x. meets s (g ∷ T.scopes) (Some x.under) && is_none x.struck) (λ x. meets s T.scopes (Some x.under) && is_none x.struck) T.tasks
    (each_more (TaskFits T.dead T.places T.scopes) (λ x. (meets s (g ∷ T.scopes) (Some x.under) && is_none x.struck) ≡ (meets s T.scopes (Some x.under) && is_none x.struck))
    (λ (x : Task) f. let low : x.under.0 < T.next_scope = met_start the_root T.next_scope T.scopes x.under h.falls f.rooted in
    ap (λ b. b && is_none x.struck) (meets_skips s g T.scopes x.under (omega (arith, low, e))))
    T.tasks h.tasks)

-- Each act: an own scope of another unstruck task is quiet, or not, as it was.
own_low : (T : Tree) (n : TaskId) (g : Scope) → Sound T → own_scope T n ≡ Some g → g.number.0 < T.next_scope
own_low T n g h own = each_found (λ k. k.number.0 < T.next_scope) (opened_by n) T.scopes g (each_below T.next_scope T.scopes h.falls) own

-- who stays at a release counts as before, and who leaves did not count
released : (T : Tree) (s r : ScopeId) → Sound T → quiet T s ≡ true → busy (without T s).scopes (without T s).tasks r ≡ busy T.scopes T.tasks r
released T s r h still =
    let q : Scope → Bool = λ g. not (on_chain T s g.number) in
    any_kept (λ x. meets r (filter q T.scopes) (Some x.under) && is_none x.struck) (λ x. meets r T.scopes (Some x.under) && is_none x.struck) (λ x. not (leaves T s x)) T.tasks
    (each_more (λ x. is_under T s x && is_none x.struck ≡ false) (λ x. (not (leaves T s x) ≡ true → (meets r (filter q T.scopes) (Some x.under) && is_none x.struck) ≡ (meets r T.scopes (Some x.under) && is_none x.struck)) × (not (leaves T s x) ≡ false → (meets r T.scopes (Some x.under) && is_none x.struck) ≡ false))
    (λ (x : Task) f. (
      λ e. ap (λ b. b && is_none x.struck) (meets_filter q r T.scopes (Some x.under) (passes_marks q s T.scopes (Some x.under) (drops T s h) (stayer_free T s x f e))),
      λ e. and_right (meets r T.scopes (Some x.under)) (is_none x.struck) (none_is_not x.struck ∙ ap not (and_parts (is_under T s x) (is_some x.struck) (not_off (leaves T s x) (λ k. true≢false (sym k ∙ e)))).1),
    ))
    T.tasks (each_none (λ x. is_under T s x && is_none x.struck) T.tasks (not-true _ still)))

quiet_stays : (T : Tree) (t n : TaskId) (act : Act) (y : Task) (g : Scope) → Sound T → AllowedAct T t act → task_of (made_act T t act) t ≡ Some y → own_scope T n ≡ Some g → n.0 ≢ t.0 → quiet (made_act T t act) g.number ≡ quiet T g.number
quiet_stays T t n (Open s r path) y g h may stands own apart =
    quiet_as T (opened T t Finish s r) g.number (newer T (record { number = s; kind = Finish; opener = Some t; home = home_for T t; parent = Some r; body = []; ends = [] }) g.number h may.asks.1)
quiet_stays T t n (Calls from to s r callee path) y g h may stands own apart =
    let k : Scope = record { number = s; kind = Call; opener = Some t; home = home_for T t; parent = Some r; body = []; ends = [] } in
    let x : Task = born T callee s from to in
    let low : g.number.0 < T.next_scope = own_low T n g h own in
    let next : s.0 ≡ T.next_scope = may.asks.1 in
    let other : is_scope g.number k ≡ false = ne_eqb s.0 g.number.0 (λ e. absurd (omega (arith, e, low, next))) in
    let up : meets g.number (k ∷ T.scopes) (Some s) ≡ meets g.number T.scopes (Some r) = rw (eq-eqb s.0 s.0 refl, other) refl in
    let old : busy (k ∷ T.scopes) T.tasks g.number ≡ busy T.scopes T.tasks g.number = newer T k g.number h may.asks.1 in
    quiet_as T (made_act T t (Calls from to s r callee path)) g.number
    (any_changed (λ z. meets g.number (k ∷ T.scopes) (Some z.under) && is_none z.struck) (is_task t) waiting (λ z. refl) (x ∷ T.tasks)
    ∙ (absorbed (meets g.number (k ∷ T.scopes) (Some s) && is_none x.struck) (busy (k ∷ T.scopes) T.tasks g.number)
    (λ e. old ∙ works_below T t n may.task g h may.stands may.unstruck own apart (subst (λ (v : ScopeId). meets g.number T.scopes (Some v) ≡ true) may.asks.2 (sym up ∙ (and_parts (meets g.number (k ∷ T.scopes) (Some s)) (is_none x.struck) e).0)))
    ∙ old))
quiet_stays T t n (Spawn child s from to path) y g h may stands own apart =
    let x : Task = born T child s from to in
    let fits = inner_fits T t may.task h may.stands in
    quiet_as T (made_act T t (Spawn child s from to path)) g.number
    (absorbed (meets g.number T.scopes (Some s) && is_none x.struck) (busy T.scopes T.tasks g.number)
    (λ e. works_below T t n may.task g h may.stands may.unstruck own apart
    (governs_meets g.number T.next_scope T.scopes (Some (inner T may.task)) h.falls h.root_kind fits.rooted
    (subst (λ (v : ScopeId). meets g.number T.scopes (Some v) ≡ true) may.asks.2 (and_parts (meets g.number T.scopes (Some s)) (is_none x.struck) e).0))))
quiet_stays T t n (Arrive p) y g h may stands own apart =
    quiet_as T (made_act T t (Arrive p)) g.number (any_changed (λ z. meets g.number T.scopes (Some z.under) && is_none z.struck) (is_task t) (λ z. record z { place = At p }) (λ z. refl) T.tasks)
quiet_stays T t n (Wait s thrown) y g h may stands own apart =
    let gs : List Scope = change_first (is_scope s) (faulted (λ k. thrown) (λ k. k.ends)) T.scopes in
    quiet_as T (made_act T t (Wait s thrown)) g.number
    (any_changed (λ z. meets g.number gs (Some z.under) && is_none z.struck) (is_task t) waiting (λ z. refl) T.tasks
    ∙ any_same (λ z. meets g.number gs (Some z.under) && is_none z.struck) (λ z. meets g.number T.scopes (Some z.under) && is_none z.struck) T.tasks
    (each_all (λ z. (meets g.number gs (Some z.under) && is_none z.struck) ≡ (meets g.number T.scopes (Some z.under) && is_none z.struck))
    (λ (z : Task). ap (λ b. b && is_none z.struck) (meets_faulted (λ k. thrown) (λ k. k.ends) (is_scope s) g.number T.scopes (Some z.under))) T.tasks))
quiet_stays T t n (Release s lost masked thrown) y g h may stands own apart =
    quiet_as T (made_act T t (Release s lost masked thrown)) g.number
    (any_changed (λ z. meets g.number (without T s).scopes (Some z.under) && is_none z.struck) (is_task t) resumed (λ z. refl) (without T s).tasks
    ∙ released T s g.number h may.asks.3.is_quiet)
quiet_stays T t n (End thrown) y g h may stands own apart = absurd (left_off T t thrown y stands)
quiet_stays T t n (Print value path) y g h may stands own apart = refl
quiet_stays T t n (Census places path) y g h may stands own apart = refl

-- Each act: the other task itself.

-- what is to show where the task is found as before
pub same_able : (T T' : Tree) (n : TaskId) → Reached T → task_of T' n ≡ task_of T n → ((x : Task) (g : Scope) → task_of T n ≡ Some x → x.struck ≡ None → own_scope T n ≡ Some g → (inner T' x ≡ g.number) × (quiet T' g.number ≡ quiet T g.number)) → able T' n ≡ able T n
same_able T T' n r found more = ap (able_in T') found ∙ each (task_of T n) refl where
  each : (o : Option Task) → task_of T n ≡ o → able_in T' o ≡ able_in T o
  each None e = refl
  each (Some x) e = with_blow x.struck refl where
    with_waits : (b : Bool) → x.struck ≡ None → x.waits ≡ b → (not b || quiet T' (inner T' x)) ≡ (not b || quiet T (inner T x))
    with_waits false free w = refl
    with_waits true free w =
        let own = waiter_owns T n x r e free w in
        let same : x.number ≡ n = task-is x.number n (number-of T n x e) in
        let mine : own_scope T x.number ≡ Some own.0 = subst (λ (v : TaskId). own_scope T v ≡ Some own.0) (sym same) own.1 in
        let m = more x own.0 e free own.1 in
        ap (quiet T') m.0 ∙ (m.1 ∙ sym (ap (quiet T) (inner_is T x own.0 mine)))

    with_blow : (o : Option Blow) → x.struck ≡ o → is_enabled T' x ≡ is_enabled T x
    with_blow (Some b) s = rw (s, is_enabled) refl
    with_blow None s = ap (λ v. is_none x.struck && v) (with_waits x.waits s refl)

abbrev pub number_at : ScopeId → Option Scope → ScopeId
number_at u None = u
number_at u (Some g) = g.number

inner_at : (T : Tree) (x : Task) → inner T x ≡ number_at x.under (own_scope T x.number)
inner_at T x = elim (own_scope T x.number) as (λ o. (elim o as (λ _. ScopeId) [ Some g ↦ g.number | None ↦ x.under ]) ≡ number_at x.under o) [ Some g ↦ refl | None ↦ refl ]

-- where the own scope has the same number
pub inner_same : (T T' : Tree) (n : TaskId) (x : Task) (g : Scope) → task_of T n ≡ Some x → own_scope T n ≡ Some g → ((u : ScopeId) → number_at u (own_scope T' n) ≡ number_at u (own_scope T n)) → inner T' x ≡ g.number
inner_same T T' n x g found own same =
    let id : x.number ≡ n = task-is x.number n (number-of T n x found) in
    inner_at T' x ∙ (ap (λ (v : TaskId). number_at x.under (own_scope T' v)) id ∙ (same x.under ∙ ap (number_at x.under) own))

-- a scope that another task opens
not_mine : (T : Tree) (t n : TaskId) (kind : Kind) (s r : ScopeId) → n.0 ≢ t.0 → own_scope (opened T t kind s r) n ≡ own_scope T n
not_mine T t n kind s r apart = let off : (t.0 == n.0) ≡ false = ne_eqb t.0 n.0 (λ e. apart (sym e)) in rw off refl

pub faulted_own : (b e : Scope → List Fault) (q p : Scope → Bool) → ((g : Scope) → p (faulted b e g) ≡ p g) → (gs : List Scope) (u : ScopeId) → number_at u (find p (change_first q (faulted b e) gs)) ≡ number_at u (find p gs)
faulted_own b e q p same [] u = refl
faulted_own b e q p same (g ∷ gs) u =
    elim (q g) as (λ c. number_at u (find p (cond c (faulted b e g ∷ gs) (g ∷ change_first q (faulted b e) gs))) ≡ number_at u (find p (g ∷ gs))) [
      | true ↦ ap (λ v. number_at u (cond v (Some (faulted b e g)) (find p gs))) (same g) ∙ elim (p g) as (λ v. number_at u (cond v (Some (faulted b e g)) (find p gs)) ≡ number_at u (cond v (Some g) (find p gs))) [ true ↦ refl | false ↦ refl ]
      | false ↦ elim (p g) as (λ v. number_at u (cond v (Some g) (find p (change_first q (faulted b e) gs))) ≡ number_at u (cond v (Some g) (find p gs))) [ true ↦ refl | false ↦ faulted_own b e q p same gs u ]
    ]

-- a task that a release has taken was struck, and so not enabled
taken_off : (T : Tree) (n : TaskId) (s : ScopeId) → task_of (without T s) n ≡ None → able T n ≡ false
taken_off T n s e = each (task_of T n) refl where
  each : (o : Option Task) → task_of T n ≡ o → able_in T (task_of T n) ≡ false
  each None k = ap (able_in T) k
  each (Some x) k = ap (able_in T) k ∙ with_blow x.struck refl where
    with_blow : (o : Option Blow) → x.struck ≡ o → is_enabled T x ≡ false
    with_blow (Some b) w = rw (w, is_enabled) refl
    with_blow None w = let f : None ≡ Some x = sym e ∙ stays_at_release T n x s k w in cc

pub others_stay : OthersStay
others_stay T t (Open s r path) y n reached may stands apart low =
    same_able T (made_act T t (Open s r path)) n reached refl (λ x g found free own.
    (inner_same T (made_act T t (Open s r path)) n x g found own (λ u. ap (number_at u) (not_mine T t n Finish s r apart)), quiet_stays T t n (Open s r path) y g (sound reached) may stands own apart))
others_stay T t (Calls from to s r callee path) y n reached may stands apart low =
    let next : callee.0 ≡ T.next_task = may.asks.3 in
    let off : (callee.0 == n.0) ≡ false = ne_eqb callee.0 n.0 (λ e. absurd (omega (arith, e, low, next))) in
    let found : task_of (made_act T t (Calls from to s r callee path)) n ≡ task_of T n = find_unchanged t n waiting (λ z. refl) apart (born T callee s from to ∷ T.tasks) ∙ rw off refl in
    same_able T (made_act T t (Calls from to s r callee path)) n reached found (λ x g found free own.
    (inner_same T (made_act T t (Calls from to s r callee path)) n x g found own (λ u. ap (number_at u) (not_mine T t n Call s r apart)), quiet_stays T t n (Calls from to s r callee path) y g (sound reached) may stands own apart))
others_stay T t (Spawn child s from to path) y n reached may stands apart low =
    let next : child.0 ≡ T.next_task = may.asks.1 in
    let off : (child.0 == n.0) ≡ false = ne_eqb child.0 n.0 (λ e. absurd (omega (arith, e, low, next))) in
    let found : task_of (made_act T t (Spawn child s from to path)) n ≡ task_of T n = rw off refl in
    same_able T (made_act T t (Spawn child s from to path)) n reached found (λ x g found free own.
    (inner_same T (made_act T t (Spawn child s from to path)) n x g found own (λ u. refl), quiet_stays T t n (Spawn child s from to path) y g (sound reached) may stands own apart))
others_stay T t (Arrive p) y n reached may stands apart low =
    same_able T (made_act T t (Arrive p)) n reached (find_unchanged t n (λ z. record z { place = At p }) (λ z. refl) apart T.tasks) (λ x g found free own.
    (inner_same T (made_act T t (Arrive p)) n x g found own (λ u. refl), quiet_stays T t n (Arrive p) y g (sound reached) may stands own apart))
others_stay T t (Wait s thrown) y n reached may stands apart low =
    same_able T (made_act T t (Wait s thrown)) n reached (find_unchanged t n waiting (λ z. refl) apart T.tasks) (λ x g found free own.
    (inner_same T (made_act T t (Wait s thrown)) n x g found own (faulted_own (λ k. thrown) (λ k. k.ends) (is_scope s) (opened_by n) (λ k. refl) T.scopes), quiet_stays T t n (Wait s thrown) y g (sound reached) may stands own apart))
others_stay T t (Release s lost masked thrown) y n reached may stands apart low =
    let T' : Tree = made_act T t (Release s lost masked thrown) in
    let h : Sound T = sound reached in
    let found : task_of T' n ≡ task_of (without T s) n = find_unchanged t n resumed (λ z. refl) apart (without T s).tasks in
    (elim (task_of (without T s) n) as (λ o. task_of (without T s) n ≡ o → able T' n ≡ able T n) [
      | None ↦ λ e. ap (able_in T') (found ∙ e) ∙ sym (taken_off T n s e)
      | Some z ↦ λ e.
          let old : task_of T n ≡ Some z = find_unfiltered (λ x. not (leaves T s x)) n T.next_task T.tasks z h.tasks_fall e in
          same_able T T' n reached (found ∙ (e ∙ sym old)) (λ x g at free own.
          let same : x.number ≡ n = task-is x.number n (number-of T n x at) in
          let spared = release_spares T t s lost masked thrown x reached may (subst (λ (v : TaskId). task_of T v ≡ Some x) (sym same) at) free (λ k. apart (sym (ap (λ (v : TaskId). v.0) same) ∙ k)) in
          (inner_same T T' n x g at own (λ u. ap (number_at u) (subst (λ (v : TaskId). own_scope T' v ≡ own_scope T v) same spared)), quiet_stays T t n (Release s lost masked thrown) y g h may stands own apart))
    ]) refl
others_stay T t (End thrown) y n reached may stands apart low = absurd (left_off T t thrown y stands)
others_stay T t (Print value path) y n reached may stands apart low = refl
others_stay T t (Census places path) y n reached may stands apart low = refl
