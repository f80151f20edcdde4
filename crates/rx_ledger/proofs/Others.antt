-- What an entry leaves of a task that does not make it.
use Rattle.std.proofs.Common.{◌≡◌, ◌≢◌, ℕ, ◌<◌, ◌==◌, Bool, true, false, cond, not, ◌&&◌, filter, map, List, [], ◌∷◌, ◌++◌, Option, Some, None, is_some, is_none, option_map, refl, ap, ◌∙◌, sym, subst, arith, ◌⊎◌, inl, inr}
use Rattle.std.specs.List.{find, list_any}
use Rattle.std.proofs.lemmas.Bool.{eqb-true, ne_eqb, true≢false, false_from_ne_true, not-true}
use Rattle.rx_rules.proofs.Common.{TaskId, ScopeId, Fault, Tree, is_task, task_of, is_scope, is_under, on_chain, opened_by, quiet, the_root, Allowed, AllowedAct, made, made_act, after_end, change_first, change_scope, waiting, resumed, born, without, hit, widened, Reached, opens, acts, dies, joins}
use Rattle.rx_base.proofs.Elements.{find-passes}
use Rattle.rx_rules.specs.declared.entries.Act.{Act}
use Rattle.rx_rules.specs.declared.entries.Act.TheVariants.{Open, At as Calls, Spawn, Arrive, Wait, Release, End, Print, Census}
use Rattle.rx_rules.specs.declared.entries.Entry.{Entry}
use Rattle.rx_rules.specs.declared.entries.Entry.TheVariants.{Step, Root, Death, Join}
use Rattle.rx_rules.specs.declared.tasks.Where.TheVariants.{At}
use Rattle.rx_rules.specs.declared.tasks.Blow.{Blow}
use Rattle.rx_rules.specs.declared.tasks.Task.{Task}
use Rattle.rx_rules.specs.declared.tasks.Scope.{Scope}
use Rattle.rx_rules.specs.Reached.{ends}
use Rattle.rx_rules.proofs.Lookups.{number-of}
use Rattle.rx_tree_laws.specs.Sound.{Each, TasksFall, Sound}
use Rattle.rx_tree_laws.specs.Chains.{meets}
use Rattle.rx_tree_laws.proofs.Blows.{hit_under, hit_place}
use Rattle.rx_tree_laws.proofs.Waiting.{hit_waits}
use Rattle.rx_tree_laws.proofs.Changes.{each_found, each_more}
use Rattle.rx_tree_laws.proofs.Releasing.{leaves, each_none, none_is_not, on_meets}
use Rattle.rx_tree_laws.proofs.Below.{own_free, one_opener}
use Rattle.rx_tree_laws.proofs.Owning.{kept}
use Rattle.rx_tree_laws.proofs.Reach.{task_below, fits_of}
use Rattle.rx_tree_laws.proofs.Reached.{sound}
use Rattle.rx_tree_laws.proofs.Stay.{find_change, find_filter}
use Rattle.rx_tree_laws.proofs.Staying.{find_unfiltered}
use Rattle.rx_runs.proofs.Endings.{struck_if}
use Rattle.rx_finish.specs.Callers.{gone_of}
use Rattle.rx_ledger.specs.Staying.{NotBy}
use Rattle.rx_chronicle.proofs.Linking.{find-hit, links, link, links_faulted}

-- Look-ups.

find_later : {X : Type 0} (p : X → Bool) (xs ys : List X) → find p xs ≡ None → find p (xs ++ ys) ≡ find p ys
find_later p [] ys e = refl
find_later p (x ∷ xs) ys e =
    (elim (p x) as (λ b. cond b (Some x) (find p xs) ≡ None → cond b (Some x) (find p (xs ++ ys)) ≡ find p ys) [
      | true ↦ λ k. absurd (let v : ⊥ = cc in v)
      | false ↦ λ k. find_later p xs ys k
    ]) e

find_before : {X : Type 0} (p : X → Bool) (xs ys : List X) (x : X) → find p xs ≡ Some x → find p (xs ++ ys) ≡ Some x
find_before p [] ys x e = absurd (let v : ⊥ = cc in v)
find_before p (y ∷ xs) ys x e =
    (elim (p y) as (λ b. cond b (Some y) (find p xs) ≡ Some x → cond b (Some y) (find p (xs ++ ys)) ≡ Some x) [
      | true ↦ λ k. k
      | false ↦ λ k. find_before p xs ys x k
    ]) e

none_changed : {X : Type 0} (p q : X → Bool) (f : X → X) → ((x : X) → p (f x) ≡ p x) → (xs : List X) → find p xs ≡ None → find p (change_first q f xs) ≡ None
none_changed p q f same [] e = refl
none_changed p q f same (x ∷ xs) e =
    (elim (p x) as (λ b. p x ≡ b → cond b (Some x) (find p xs) ≡ None → find p (change_first q f (x ∷ xs)) ≡ None) [
      | true ↦ λ w k. absurd (let v : ⊥ = cc in v)
      | false ↦ λ w k. elim (q x) as (λ c. find p (cond c (f x ∷ xs) (x ∷ change_first q f xs)) ≡ None) [
        | true ↦ ap (λ (b : Bool). cond b (Some (f x)) (find p xs)) (same x ∙ w) ∙ k
        | false ↦ ap (λ (b : Bool). cond b (Some x) (find p (change_first q f xs))) w ∙ none_changed p q f same xs k
      ]
    ]) refl e

pub none_filtered : {X : Type 0} (p q : X → Bool) (xs : List X) → find p xs ≡ None → find p (filter q xs) ≡ None
none_filtered p q [] e = refl
none_filtered p q (x ∷ xs) e =
    (elim (p x) as (λ b. p x ≡ b → cond b (Some x) (find p xs) ≡ None → find p (filter q (x ∷ xs)) ≡ None) [
      | true ↦ λ w k. absurd (let v : ⊥ = cc in v)
      | false ↦ λ w k. elim (q x) as (λ c. find p (cond c (x ∷ filter q xs) (filter q xs)) ≡ None) [
        | true ↦ ap (λ (b : Bool). cond b (Some x) (find p (filter q xs))) w ∙ none_filtered p q xs k
        | false ↦ none_filtered p q xs k
      ]
    ]) refl e

-- what is found among those that pass passes
pub passes_filter : {X : Type 0} (p q : X → Bool) (xs : List X) (x : X) → find p (filter q xs) ≡ Some x → q x ≡ true
passes_filter p q [] x e = absurd (let v : ⊥ = cc in v)
passes_filter p q (y ∷ xs) x e =
    (elim (q y) as (λ b. q y ≡ b → find p (cond b (y ∷ filter q xs) (filter q xs)) ≡ Some x → q x ≡ true) [
      | true ↦ λ w k.
          (elim (p y) as (λ c. cond c (Some y) (find p (filter q xs)) ≡ Some x → q x ≡ true) [
            | true ↦ λ j. let same : y ≡ x = cc in subst (λ v. q v ≡ true) same w
            | false ↦ λ j. passes_filter p q xs x j
          ]) k
      | false ↦ λ w k. passes_filter p q xs x k
    ]) refl e

-- who is among those that pass is not among the others
none_other : (q : Task → Bool) (t : TaskId) (n : ℕ) (xs : List Task) (x : Task) → TasksFall n xs → find (is_task t) xs ≡ Some x → q x ≡ true → find (is_task t) (filter (λ z. not (q z)) xs) ≡ None
none_other q t n xs x f found pass =
    (elim (find (is_task t) (filter (λ z. not (q z)) xs)) as (λ o. find (is_task t) (filter (λ z. not (q z)) xs) ≡ o → o ≡ None) [
      | None ↦ λ w. refl
      | Some y ↦ λ w.
          let there : find (is_task t) xs ≡ Some y = find_unfiltered (λ z. not (q z)) t n xs y f w in
          let both : Some x ≡ Some y = sym found ∙ there in
          let same : x ≡ y = cc in
          let off : not (q y) ≡ true = passes_filter (is_task t) (λ z. not (q z)) xs y w in
          absurd (true≢false (sym (subst (λ (z : Task). q z ≡ true) same pass) ∙ not-true (q y) off))
    ]) refl

-- a change of another task
find_other : (u t : TaskId) (f : Task → Task) → ((x : Task) → (f x).number ≡ x.number) → t.0 ≢ u.0 → (xs : List Task) (x : Task) → find (is_task t) xs ≡ Some x → find (is_task t) (change_first (is_task u) f xs) ≡ Some x
find_other u t f keeps apart xs x found =
    elim (find_change (is_task t) (is_task u) f (λ y. ap (λ (v : TaskId). v.0 == t.0) (keeps y)) xs x found) [
      | inl e ↦ e
      | inr both ↦
          let his : x.number.0 ≡ t.0 = eqb-true x.number.0 t.0 (find-passes (is_task t) xs x found) in
          let mine : x.number.0 ≡ u.0 = eqb-true x.number.0 u.0 (find-passes (is_task u) xs x both.1) in
          absurd (apart (sym his ∙ mine))
    ]

-- the tree after an end
pub ended : (T : Tree) (u : TaskId) (thrown : List Fault) (z : Task) → task_of T u ≡ Some z → after_end T u thrown ≡ change_scope (λ g. record g { ends = g.ends ++ thrown }) z.under (record T { tasks = filter (λ y. not (is_task u y)) T.tasks })
ended T u thrown z at = rw (at, after_end) refl

-- Tasks that left with a release.

-- the number was given, and no task of the tree has it
pub record Apart (T : Tree) (t : TaskId) : Type 0 where
  pub low : t.0 < T.next_task
  pub none : task_of T t ≡ None

none_born : (T : Tree) (child t : TaskId) (s : ScopeId) (rest : Option Task) (b : Task) → b.number ≡ child → child.0 ≡ T.next_task → t.0 < T.next_task → cond (b.number.0 == t.0) (Some b) rest ≡ rest
none_born T child t s rest b number next low =
    let num : b.number.0 ≡ child.0 = ap (λ (k : TaskId). k.0) number in
    let other : (b.number.0 == t.0) ≡ false = ne_eqb b.number.0 t.0 (λ e. absurd (omega (arith, next, low, num, e))) in
    ap (λ (c : Bool). cond c (Some b) rest) other

pub none_act : (T : Tree) (u t : TaskId) (act : Act) → AllowedAct T u act → Apart T t → task_of (made_act T u act) t ≡ None
none_act T u t (Open s r path) may h = h.none
none_act T u t (Calls from to s r child path) may h =
    none_changed (is_task t) (is_task u) waiting (λ x. refl) (born T child s from to ∷ T.tasks)
    (none_born T child t s (task_of T t) (born T child s from to) refl may.asks.3 h.low ∙ h.none)
none_act T u t (Spawn child s from to path) may h = none_born T child t s (task_of T t) (born T child s from to) refl may.asks.1 h.low ∙ h.none
none_act T u t (Arrive p) may h = none_changed (is_task t) (is_task u) (λ x. record x { place = At p }) (λ x. refl) T.tasks h.none
none_act T u t (Wait s thrown) may h = none_changed (is_task t) (is_task u) waiting (λ x. refl) T.tasks h.none
none_act T u t (Release s lost masked thrown) may h =
    none_changed (is_task t) (is_task u) resumed (λ x. refl) (without T s).tasks (none_filtered (is_task t) (λ x. not (leaves T s x)) T.tasks h.none)
none_act T u t (End thrown) may h =
    subst (λ (V : Tree). task_of V t ≡ None) (sym (ended T u thrown may.task may.stands)) (none_filtered (is_task t) (λ y. not (is_task u y)) T.tasks h.none)
none_act T u t (Print value path) may h = h.none
none_act T u t (Census places path) may h = h.none

next_act : (T : Tree) (u t : TaskId) (act : Act) → AllowedAct T u act → t.0 < T.next_task → t.0 < (made_act T u act).next_task
next_act T u t (Open s r path) may h = h
next_act T u t (Calls from to s r child path) may h = omega (arith, h)
next_act T u t (Spawn child s from to path) may h = omega (arith, h)
next_act T u t (Arrive p) may h = h
next_act T u t (Wait s thrown) may h = h
next_act T u t (Release s lost masked thrown) may h = h
next_act T u t (End thrown) may h = subst (λ (V : Tree). t.0 < V.next_task) (sym (ended T u thrown may.task may.stands)) h
next_act T u t (Print value path) may h = h
next_act T u t (Census places path) may h = h

apart_act : (T : Tree) (u t : TaskId) (act : Act) → AllowedAct T u act → Apart T t → Apart (made_act T u act) t
apart_act T u t act may h = record { low = next_act T u t act may h.low; none = none_act T u t act may h }

apart_without : (T : Tree) (s : ScopeId) (t : TaskId) → Apart T t → Apart (without T s) t
apart_without T s t h = record { low = h.low; none = none_filtered (is_task t) (λ x. not (leaves T s x)) T.tasks h.none }

apart_strike : (T : Tree) (b : Blow) (t : TaskId) → Apart T t → find (is_task t) (map (hit b) T.tasks) ≡ None
apart_strike T b t h = find-hit b t T.tasks ∙ ap (option_map (hit b)) h.none

-- who leaves with a release is apart afterwards
apart_left : (T : Tree) (s : ScopeId) (t : TaskId) (z : Task) → Sound T → ((y : Task) → gone_of T t ≡ Some y → Apart T t) → gone_of (without T s) t ≡ Some z → Apart (without T s) t
apart_left T s t z h old e =
    (elim (gone_of T t) as (λ o. gone_of T t ≡ o → Apart (without T s) t) [
      | Some y ↦ λ w. apart_without T s t (old y w)
      | None ↦ λ w.
          let now : find (is_task t) (filter (leaves T s) T.tasks) ≡ Some z = sym (find_later (is_task t) T.gone (filter (leaves T s) T.tasks) w) ∙ e in
          let there : task_of T t ≡ Some z = find_unfiltered (leaves T s) t T.next_task T.tasks z h.tasks_fall now in
          record {
            low = task_below T.next_task T.tasks t z h.tasks_fall there;
            none = none_other (leaves T s) t T.next_task T.tasks z h.tasks_fall there (passes_filter (is_task t) (leaves T s) T.tasks z now);
          }
    ]) refl

gone_act : (T : Tree) (u t : TaskId) (act : Act) (z : Task) → Sound T → AllowedAct T u act → ((y : Task) → gone_of T t ≡ Some y → Apart T t) → gone_of (made_act T u act) t ≡ Some z → Apart (made_act T u act) t
gone_act T u t (Open s r path) z h may old e = apart_act T u t (Open s r path) may (old z e)
gone_act T u t (Calls from to s r child path) z h may old e = apart_act T u t (Calls from to s r child path) may (old z e)
gone_act T u t (Spawn child s from to path) z h may old e = apart_act T u t (Spawn child s from to path) may (old z e)
gone_act T u t (Arrive p) z h may old e = apart_act T u t (Arrive p) may (old z e)
gone_act T u t (Wait s thrown) z h may old e = apart_act T u t (Wait s thrown) may (old z e)
gone_act T u t (Release s lost masked thrown) z h may old e =
    let a = apart_left T s t z h old e in
    record { low = a.low; none = none_changed (is_task t) (is_task u) resumed (λ x. refl) (without T s).tasks a.none }
gone_act T u t (End thrown) z h may old e =
    apart_act T u t (End thrown) may (old z (subst (λ (V : Tree). gone_of V t ≡ Some z) (ended T u thrown may.task may.stands) e))
gone_act T u t (Print value path) z h may old e = old z e
gone_act T u t (Census places path) z h may old e = old z e

pub all_apart : {T : Tree} → Reached T → (t : TaskId) (z : Task) → gone_of T t ≡ Some z → Apart T t
all_apart (opens places low high) t z e = absurd (let v : ⊥ = cc in v)
all_apart (acts {T = T} u act r may) t z e = gone_act T u t act z (sound r) may (λ y. all_apart r t y) e
all_apart (ends {T = T} lost masked thrown r may) t z e = apart_left T the_root t z (sound r) (λ y. all_apart r t y) e
all_apart (dies {T = T} b r may old) t z e = let a = all_apart r t z e in record { low = a.low; none = apart_strike T b t a }
all_apart (joins {T = T} p r may) t z e = let a = all_apart r t z e in record { low = a.low; none = a.none }

-- Tasks of the tree.

-- the task is as it was, but for a blow
pub record Kept (V : Tree) (t : TaskId) (x : Task) : Type 0 where
  pub task : Task
  pub stands : task_of V t ≡ Some task
  pub under : task.under ≡ x.under
  pub place : task.place ≡ x.place
  pub waits : task.waits ≡ x.waits

-- and so are its own scopes
pub record Stays (T V : Tree) (t : TaskId) (x : Task) : Type 0 where
  pub kept : Kept V t x
  pub owns : links V t ≡ links T t

-- it has left with a release
pub record Left (V : Tree) (t : TaskId) (x : Task) : Type 0 where
  pub none : task_of V t ≡ None
  pub gone : gone_of V t ≡ Some x

abbrev pub Lasts : Tree → Tree → TaskId → Task → Type 0
Lasts T V t x = Stays T V t x ⊎ Left V t x

same_kept : (V : Tree) (t : TaskId) (x : Task) → task_of V t ≡ Some x → Kept V t x
same_kept V t x e = record { task = x; stands = e; under = refl; place = refl; waits = refl }

under_leaves : (T : Tree) (s : ScopeId) (t : TaskId) (x : Task) → quiet T s ≡ true → task_of T t ≡ Some x → is_under T s x ≡ true → leaves T s x ≡ true
under_leaves T s t x still found below =
    let all : Each (λ y. is_under T s y && is_none y.struck ≡ false) T.tasks = each_none (λ y. is_under T s y && is_none y.struck) T.tasks (not-true _ still) in
    struck_if (is_under T s x) (is_none x.struck) (is_some x.struck) below
    (each_found (λ y. is_under T s y && is_none y.struck ≡ false) (is_task t) T.tasks x all found) (none_is_not x.struck)

left_now : (T : Tree) (s : ScopeId) (t : TaskId) (x : Task) → Reached T → task_of T t ≡ Some x → leaves T s x ≡ true → Left (without T s) t x
left_now T s t x r found out =
    let fresh : gone_of T t ≡ None = (elim (gone_of T t) as (λ o. gone_of T t ≡ o → o ≡ None) [
      | None ↦ λ w. refl
      | Some y ↦ λ w. let a = all_apart r t y w in let both : Some x ≡ None = sym found ∙ a.none in absurd (let v : ⊥ = cc in v)
    ]) refl in
    record {
      none = none_other (leaves T s) t T.next_task T.tasks x (sound r).tasks_fall found out;
      gone = find_later (is_task t) T.gone (filter (leaves T s) T.tasks) fresh ∙ find_filter (is_task t) (leaves T s) T.tasks x found out;
    }

-- one that is not under the scope stays with its own scopes, if that scope is none of these
spared : (T : Tree) (s : ScopeId) (t : TaskId) (x : Task) → Sound T → task_of T t ≡ Some x → is_under T s x ≡ false → list_any (λ k. is_scope s k && opened_by t k) T.scopes ≡ false → (task_of (without T s) t ≡ Some x) × (links (without T s) t ≡ links T t)
spared T s t x h found free none =
    let off : not (leaves T s x) ≡ true = ap (λ (b : Bool). not (b && is_some x.struck)) free in
    let away : meets s T.scopes (Some x.under) ≡ false = sym (on_meets s T.scopes (Some x.under)) ∙ free in
    let each = own_free T.tasks T.next_scope T.scopes s t x h.falls h.opened found away none in
    let keep : Each (λ k. opened_by t k ≡ true → not (on_chain T s k.number) ≡ true) T.scopes =
    each_more (λ k. opened_by t k ≡ true → meets s T.scopes (Some k.number) ≡ false) (λ k. opened_by t k ≡ true → not (on_chain T s k.number) ≡ true)
    (λ k m mine. ap not (on_meets s T.scopes (Some k.number) ∙ m mine)) T.scopes each in (
      find_filter (is_task t) (λ z. not (leaves T s z)) T.tasks x found off,
      ap (map link) (kept (opened_by t) (λ g. not (on_chain T s g.number)) T.scopes keep),
    )

module _ (T : Tree) (r : Reached T) (u t : TaskId) (x : Task) (apart : t.0 ≢ u.0) (found : task_of T t ≡ Some x) where
  low : t.0 < T.next_task
  low = task_below T.next_task T.tasks t x (sound r).tasks_fall found

  skip : (u.0 == t.0) ≡ false
  skip = ne_eqb u.0 t.0 (λ e. apart (sym e))

  released : (s : ScopeId) (g : Scope) → find (opened_by u) T.scopes ≡ Some g → g.number ≡ s → quiet T s ≡ true → Lasts T (made_act T u (Release s (record { 0 = 0 }) 0 [])) t x
  released s g own is still =
      (elim (is_under T s x) as (λ b. is_under T s x ≡ b → Lasts T (made_act T u (Release s (record { 0 = 0 }) 0 [])) t x) [
        | true ↦ λ w.
            let l = left_now T s t x r found (under_leaves T s t x still found w) in
            inr (record { none = none_changed (is_task t) (is_task u) resumed (λ z. refl) (without T s).tasks l.none; gone = l.gone })
        | false ↦ λ w.
            let none : list_any (λ k. is_scope s k && opened_by t k) T.scopes ≡ false =
            false_from_ne_true (list_any (λ k. is_scope s k && opened_by t k) T.scopes)
            (λ a. apart (one_opener T.next_scope T.scopes u t g (sound r).falls own (subst (λ (v : ScopeId). list_any (λ k. is_scope v k && opened_by t k) T.scopes ≡ true) (sym is) a))) in
            let s2 = spared T s t x (sound r) found w none in
            inl (record {
              kept = same_kept (made_act T u (Release s (record { 0 = 0 }) 0 [])) t x (find_other u t resumed (λ z. refl) apart (without T s).tasks x s2.0);
              owns = s2.1;
            })
      ]) refl

  pub act_lasts : (act : Act) → AllowedAct T u act → Lasts T (made_act T u act) t x
  act_lasts (Open s p path) may = inl (record { kept = same_kept (made_act T u (Open s p path)) t x found; owns = rw skip refl })
  act_lasts (Calls from to s p child path) may =
      inl (record {
        kept = same_kept (made_act T u (Calls from to s p child path)) t x
            (find_other u t waiting (λ z. refl) apart (born T child s from to ∷ T.tasks) x
            (none_born T child t s (task_of T t) (born T child s from to) refl may.asks.3 low ∙ found));
        owns = rw skip refl;
      })
  act_lasts (Spawn child s from to path) may =
      inl (record {
        kept = same_kept (made_act T u (Spawn child s from to path)) t x
            (none_born T child t s (task_of T t) (born T child s from to) refl may.asks.1 low ∙ found);
        owns = refl;
      })
  act_lasts (Arrive p) may =
      inl (record {
        kept = same_kept (made_act T u (Arrive p)) t x (find_other u t (λ z. record z { place = At p }) (λ z. refl) apart T.tasks x found);
        owns = refl;
      })
  act_lasts (Wait s thrown) may =
      inl (record {
        kept = same_kept (made_act T u (Wait s thrown)) t x (find_other u t waiting (λ z. refl) apart T.tasks x found);
        owns = links_faulted (opened_by t) (is_scope s) (λ g. record g { body = thrown }) T.scopes (λ g. refl) (λ g. refl);
      })
  act_lasts (Release s lost masked thrown) may = released s may.asks.1 may.asks.2.0 may.asks.2.1 may.asks.3.is_quiet
  act_lasts (End thrown) may =
      let z = may.task in
      let V : Tree = change_scope (λ g. record g { ends = g.ends ++ thrown }) z.under (record T { tasks = filter (λ y. not (is_task u y)) T.tasks }) in
      let keeps : not (is_task u x) ≡ true = ap not (ne_eqb x.number.0 u.0 (λ e. apart (sym (number-of T t x found) ∙ e))) in
      subst (λ (W : Tree). Lasts T W t x) (sym (ended T u thrown z may.stands))
      (inl (record {
        kept = same_kept V t x (find_filter (is_task t) (λ y. not (is_task u y)) T.tasks x found keeps);
        owns = links_faulted (opened_by t) (is_scope z.under) (λ g. record g { ends = g.ends ++ thrown }) T.scopes (λ g. refl) (λ g. refl);
      }))
  act_lasts (Print value path) may = inl (record { kept = same_kept T t x found; owns = refl })
  act_lasts (Census places path) may = inl (record { kept = same_kept T t x found; owns = refl })

-- what an entry leaves of a task that does not make it
pub entry_lasts : (n : ℕ) (T : Tree) (e : Entry) (t : TaskId) (x : Task) → Reached T → Allowed T e → NotBy t e → task_of T t ≡ Some x → Lasts T (made n T e) t x
entry_lasts n T (Step u act batch) t x r may apart found = act_lasts T r u t x apart found act may
entry_lasts n T (Root lost masked thrown) t x r may apart found =
    let h : Sound T = sound r in
    let below : is_under T the_root x ≡ true = on_meets the_root T.scopes (Some x.under) ∙ (fits_of T t x h found).rooted in
    inr (left_now T the_root t x r found (under_leaves T the_root t x may.2.is_quiet found below))
entry_lasts n T (Join p) t x r may apart found = inl (record { kept = same_kept (widened T) t x found; owns = refl })
entry_lasts n T (Death d) t x r may apart found =
    let b : Blow = record { place = d; entry = n } in
    inl (record {
      kept = record {
        task = hit b x;
        stands = find-hit b t T.tasks ∙ ap (option_map (hit b)) found;
        under = hit_under b x;
        place = hit_place b x;
        waits = hit_waits b x;
      };
      owns = refl;
    })

-- Who has left stays away.

gone_stays : (T : Tree) (u t : TaskId) (act : Act) (z : Task) → AllowedAct T u act → gone_of T t ≡ Some z → gone_of (made_act T u act) t ≡ Some z
gone_stays T u t (Open s r path) z may e = e
gone_stays T u t (Calls from to s r child path) z may e = e
gone_stays T u t (Spawn child s from to path) z may e = e
gone_stays T u t (Arrive p) z may e = e
gone_stays T u t (Wait s thrown) z may e = e
gone_stays T u t (Release s lost masked thrown) z may e = find_before (is_task t) T.gone (filter (leaves T s) T.tasks) z e
gone_stays T u t (End thrown) z may e = subst (λ (V : Tree). gone_of V t ≡ Some z) (sym (ended T u thrown may.task may.stands)) e
gone_stays T u t (Print value path) z may e = e
gone_stays T u t (Census places path) z may e = e

pub left_lasts : (n : ℕ) (T : Tree) (e : Entry) (t : TaskId) (x : Task) → Reached T → Allowed T e → Left T t x → Left (made n T e) t x
left_lasts n T (Step u act batch) t x r may l =
    record { none = none_act T u t act may (all_apart r t x l.gone); gone = gone_stays T u t act x may l.gone }
left_lasts n T (Root lost masked thrown) t x r may l =
    record {
      none = none_filtered (is_task t) (λ z. not (leaves T the_root z)) T.tasks l.none;
      gone = find_before (is_task t) T.gone (filter (leaves T the_root) T.tasks) x l.gone;
    }
left_lasts n T (Join p) t x r may l = record { none = l.none; gone = l.gone }
left_lasts n T (Death d) t x r may l =
    record { none = find-hit (record { place = d; entry = n }) t T.tasks ∙ ap (option_map (hit (record { place = d; entry = n }))) l.none; gone = l.gone }
