-- The kinds of a task's own scopes, and the tasks of the tree, after an act of a task.
use Rattle.std.proofs.Common.{◌≡◌, ◌≢◌, ℕ, ◌<◌, Bool, true, false, cond, not, ◌==◌, List, [], ◌∷◌, ◌++◌, filter, map, Option, Some, None, refl, ap, ◌∙◌, sym, subst, arith}
use Rattle.std.specs.List.{find}
use Rattle.std.proofs.lemmas.Bool.{eqb-true, ne_eqb, false_from_ne_true}
use Rattle.rx_rules.proofs.Common.{TaskId, ScopeId, Fault, Tree, is_task, task_of, is_scope, opened_by, on_chain, quiet, change_first, waiting, resumed, without, born, home_for, made_act, after_end, AllowedAct}
use Rattle.rx_base.proofs.Elements.{find-passes}
use Rattle.rx_base.proofs.SameIds.{task-is}
use Rattle.rx_rules.specs.declared.tasks.Where.TheVariants.{At}
use Rattle.rx_rules.specs.declared.tasks.Task.{Task}
use Rattle.rx_rules.specs.declared.tasks.Scope.{Scope}
use Rattle.rx_rules.specs.declared.tasks.Kind.{Kind}
use Rattle.rx_rules.specs.declared.tasks.Kind.TheVariants.{Finish, Call}
use Rattle.rx_rules.specs.declared.entries.Act.{Act}
use Rattle.rx_rules.specs.declared.entries.Act.TheVariants.{Open, At as Calls, Spawn, Arrive, Wait, Release, End, Print, Census}
use Rattle.rx_tree_laws.specs.Sound.{Each, TasksFall, Sound}
use Rattle.rx_tree_laws.proofs.Changes.{each_found, each_filter}
use Rattle.rx_tree_laws.proofs.Stay.{faulted}
use Rattle.rx_tree_laws.proofs.Releasing.{leaves}
use Rattle.rx_tree_laws.proofs.Owning.{kept}
use Rattle.rx_tree_laws.proofs.Below.{own_stays}
use Rattle.rx_tree_laws.proofs.Waiting.{each_stands, OpenersBelow}
use Rattle.rx_runs.specs.Framing.{kinds_of}

-- Look-ups.

pub find_other : (t u : TaskId) (f : Task → Task) → ((x : Task) → (f x).number ≡ x.number) → t.0 ≢ u.0 → (xs : List Task) → find (is_task u) (change_first (is_task t) f xs) ≡ find (is_task u) xs
find_other t u f same other [] = refl
find_other t u f same other (x ∷ xs) =
    (elim (is_task t x) as (λ b. is_task t x ≡ b → find (is_task u) (cond b (f x ∷ xs) (x ∷ change_first (is_task t) f xs)) ≡ cond (is_task u x) (Some x) (find (is_task u) xs)) [
      | true ↦ λ e.
          let num : x.number.0 ≡ t.0 = eqb-true x.number.0 t.0 e in
          let apart : is_task u x ≡ false = ne_eqb x.number.0 u.0 (λ q. other (sym num ∙ q)) in
          let apart2 : is_task u (f x) ≡ false = ap (λ (v : TaskId). v.0 == u.0) (same x) ∙ apart in
          rw (apart, apart2) refl
      | false ↦ λ e. ap (λ (v : Option Task). cond (is_task u x) (Some x) v) (find_other t u f same other xs)
    ]) refl

pub find_own : (t : TaskId) (f : Task → Task) → ((x : Task) → (f x).number ≡ x.number) → (xs : List Task) (x : Task) → find (is_task t) xs ≡ Some x → find (is_task t) (change_first (is_task t) f xs) ≡ Some (f x)
find_own t f same [] x h = cc
find_own t f same (y ∷ ys) x h =
    (elim (is_task t y) as (λ b. is_task t y ≡ b → cond b (Some y) (find (is_task t) ys) ≡ Some x → find (is_task t) (cond b (f y ∷ ys) (y ∷ change_first (is_task t) f ys)) ≡ Some (f x)) [
      | true ↦ λ e k.
          let it : y ≡ x = cc in
          let mine : is_task t (f y) ≡ true = ap (λ (v : TaskId). v.0 == t.0) (same y) ∙ e in
          rw mine (ap (λ (v : Task). Some (f v)) it)
      | false ↦ λ e k. rw e (find_own t f same ys x k)
    ]) refl h

-- who is found in a part of the tasks is found in the whole
pub find_part : (q : Task → Bool) (n : ℕ) (xs : List Task) (u : TaskId) (y : Task) → TasksFall n xs → find (is_task u) (filter q xs) ≡ Some y → find (is_task u) xs ≡ Some y
find_part q n xs u y f h =
    let self : find (is_task y.number) xs ≡ Some y = each_found (λ (x : Task). find (is_task x.number) xs ≡ Some x) (is_task u) (filter q xs) y (each_filter (λ (x : Task). find (is_task x.number) xs ≡ Some x) q xs (each_stands n xs f)) h in
    let num : y.number.0 ≡ u.0 = eqb-true y.number.0 u.0 (find-passes (is_task u) (filter q xs) y h) in
    subst (λ (v : TaskId). find (is_task v) xs ≡ Some y) (task-is y.number u num) self

pub find_gone : (t : TaskId) (xs : List Task) (y : Task) → find (is_task t) (filter (λ x. not (is_task t x)) xs) ≡ Some y → ⊥
find_gone t [] y h = cc
find_gone t (x ∷ xs) y h =
    (elim (is_task t x) as (λ b. is_task t x ≡ b → find (is_task t) (cond (not b) (x ∷ filter (λ x. not (is_task t x)) xs) (filter (λ x. not (is_task t x)) xs)) ≡ Some y → ⊥) [
      | true ↦ λ e k. find_gone t xs y k
      | false ↦ λ e k. find_gone t xs y (rw e at k)
    ]) refl h

pub find_unmap : (p : Task → Bool) (f : Task → Task) → ((x : Task) → p (f x) ≡ p x) → (xs : List Task) (y : Task) → find p (map f xs) ≡ Some y → (x : Task) × (find p xs ≡ Some x) × (y ≡ f x)
find_unmap p f same [] y h = cc
find_unmap p f same (x ∷ xs) y h =
    (elim (p x) as (λ b. p x ≡ b → (z : Task) × (cond b (Some x) (find p xs) ≡ Some z) × (y ≡ f z)) [
      | true ↦ λ e. (let at : p (f x) ≡ true = same x ∙ e in let k : Some (f x) ≡ Some y = rw at at h in (x, refl, (let q : f x ≡ y = cc in sym q)))
      | false ↦ λ e. (let at : p (f x) ≡ false = same x ∙ e in find_unmap p f same xs y (rw at at h))
    ]) refl

-- Kinds.

abbrev pub kinds_in : List Scope → TaskId → List Kind
kinds_in gs t = map (λ g. g.kind) (filter (opened_by t) gs)

pub kinds_other : (g : Scope) (gs : List Scope) (u : TaskId) → opened_by u g ≡ false → kinds_in (g ∷ gs) u ≡ kinds_in gs u
kinds_other g gs u e = ap (λ b. map (λ (k : Scope). k.kind) (cond b (g ∷ filter (opened_by u) gs) (filter (opened_by u) gs))) e

pub kinds_own : (g : Scope) (gs : List Scope) (u : TaskId) → opened_by u g ≡ true → kinds_in (g ∷ gs) u ≡ g.kind ∷ kinds_in gs u
kinds_own g gs u e = ap (λ b. map (λ (k : Scope). k.kind) (cond b (g ∷ filter (opened_by u) gs) (filter (opened_by u) gs))) e

pub kinds_faulted : (b e : Scope → List Fault) (q : Scope → Bool) (gs : List Scope) (u : TaskId) → kinds_in (change_first q (faulted b e) gs) u ≡ kinds_in gs u
kinds_faulted b e q [] u = refl
kinds_faulted b e q (g ∷ gs) u =
    elim (q g) as (λ c. kinds_in (cond c (faulted b e g ∷ gs) (g ∷ change_first q (faulted b e) gs)) u ≡ kinds_in (g ∷ gs) u) [
      | true ↦ elim (opened_by u g) as (λ d. map (λ (k : Scope). k.kind) (cond d (faulted b e g ∷ filter (opened_by u) gs) (filter (opened_by u) gs)) ≡ map (λ (k : Scope). k.kind) (cond d (g ∷ filter (opened_by u) gs) (filter (opened_by u) gs))) [ true ↦ refl | false ↦ refl ]
      | false ↦ elim (opened_by u g) as (λ d. map (λ (k : Scope). k.kind) (cond d (g ∷ filter (opened_by u) (change_first q (faulted b e) gs)) (filter (opened_by u) (change_first q (faulted b e) gs))) ≡ map (λ (k : Scope). k.kind) (cond d (g ∷ filter (opened_by u) gs) (filter (opened_by u) gs))) [
        | true ↦ ap (λ v. g.kind ∷ v) (kinds_faulted b e q gs u)
        | false ↦ kinds_faulted b e q gs u
      ]
    ]

-- a task that is not yet born has no scope
pub kinds_none : (n : ℕ) (gs : List Scope) (c : TaskId) → OpenersBelow n gs → c.0 ≡ n → kinds_in gs c ≡ []
kinds_none n [] c h e = refl
kinds_none n (g ∷ gs) c h e =
    kinds_other g gs c (false_from_ne_true (opened_by c g) (λ mine. let low : c.0 < n = h.0 c mine in absurd (omega arith))) ∙ kinds_none n gs c h.1 e

-- What an act of one task leaves of another that lived before.

pub record Same (T V : Tree) (u : TaskId) (y : Task) : Type 0 where
  pub found : task_of T u ≡ Some y
  pub kinds : kinds_of V u ≡ kinds_of T u

pub skip : (x : Task) (xs : List Task) (u : TaskId) → x.number.0 ≢ u.0 → find (is_task u) (x ∷ xs) ≡ find (is_task u) xs
skip x xs u o = ap (λ b. cond b (Some x) (find (is_task u) xs)) (ne_eqb x.number.0 u.0 o)

-- the scope that a task opens
abbrev pub new_scope : Tree → TaskId → Kind → ScopeId → ScopeId → Scope
new_scope T t kind s r = record { number = s; kind = kind; opener = Some t; home = home_for T t; parent = Some r; body = []; ends = [] }

other_end : (T : Tree) (t : TaskId) (thrown : List Fault) (x : Task) → Sound T → task_of T t ≡ Some x → (u : TaskId) (y : Task) → task_of (after_end T t thrown) u ≡ Some y → Same T (after_end T t thrown) u y
other_end T t thrown x h e u y found =
    let gs : List Scope = change_first (is_scope x.under) (faulted (λ g. g.body) (λ g. g.ends ++ thrown)) T.scopes in
    let as_tasks : (after_end T t thrown).tasks ≡ filter (λ z. not (is_task t z)) T.tasks = rw (e, after_end) refl in
    let as_scopes : (after_end T t thrown).scopes ≡ gs = rw (e, after_end) refl in
    record {
      found = find_part (λ z. not (is_task t z)) T.next_task T.tasks u y h.tasks_fall (subst (λ (v : List Task). find (is_task u) v ≡ Some y) as_tasks found);
      kinds = ap (λ (v : List Scope). kinds_in v u) as_scopes ∙ kinds_faulted (λ g. g.body) (λ g. g.ends ++ thrown) (is_scope x.under) T.scopes u;
    }

pub other_act : (T : Tree) (t : TaskId) (act : Act) → Sound T → AllowedAct T t act → (u : TaskId) (y : Task) → t.0 ≢ u.0 → u.0 < T.next_task → task_of (made_act T t act) u ≡ Some y → y.struck ≡ None → Same T (made_act T t act) u y
other_act T t (Open s r path) h may u y other low found free = record { found = found; kinds = kinds_other (new_scope T t Finish s r) T.scopes u (ne_eqb t.0 u.0 other) }
other_act T t (Calls from to s r c path) h may u y other low found free =
    let new : c.0 ≡ T.next_task = may.asks.3 in
    record {
      found = sym (find_other t u waiting (λ x. refl) other (born T c s from to ∷ T.tasks) ∙ skip (born T c s from to) T.tasks u (λ e. omega arith)) ∙ found;
      kinds = kinds_other (new_scope T t Call s r) T.scopes u (ne_eqb t.0 u.0 other);
    }
other_act T t (Spawn c s from to path) h may u y other low found free =
    let new : c.0 ≡ T.next_task = may.asks.1 in
    record { found = sym (skip (born T c s from to) T.tasks u (λ e. omega arith)) ∙ found; kinds = refl }
other_act T t (Arrive p) h may u y other low found free =
    record { found = sym (find_other t u (λ x. record x { place = At p }) (λ x. refl) other T.tasks) ∙ found; kinds = refl }
other_act T t (Wait s thrown) h may u y other low found free =
    record { found = sym (find_other t u waiting (λ x. refl) other T.tasks) ∙ found; kinds = kinds_faulted (λ g. thrown) (λ g. g.ends) (is_scope s) T.scopes u }
other_act T t (Release s lost masked thrown) h may u y other low found free =
    let g : Scope = may.asks.1 in
    let is_it : g.number ≡ s = may.asks.2.1 in
    let still : quiet T g.number ≡ true = subst (λ (v : ScopeId). quiet T v ≡ true) (sym is_it) may.asks.3.is_quiet in
    let part : find (is_task u) (without T s).tasks ≡ Some y = sym (find_other t u resumed (λ x. refl) other (without T s).tasks) ∙ found in
    let before : task_of T u ≡ Some y = find_part (λ x. not (leaves T s x)) T.next_task T.tasks u y h.tasks_fall part in
    record {
      found = before;
      kinds = ap (map (λ (k : Scope). k.kind))
          (kept (opened_by u) (λ g. not (on_chain T s g.number)) T.scopes
          (subst (λ (v : ScopeId). Each (λ k. opened_by u k ≡ true → not (on_chain T v k.number) ≡ true) T.scopes) is_it
          (own_stays T t u y g h may.asks.2.0 still before free (λ e. other (sym e)))));
    }
other_act T t (End thrown) h may u y other low found free = other_end T t thrown may.task h may.stands u y found
other_act T t (Print value path) h may u y other low found free = record { found = found; kinds = refl }
other_act T t (Census value path) h may u y other low found free = record { found = found; kinds = refl }
