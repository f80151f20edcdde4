-- Tasks are younger than the openers of the scopes above them, and who waits has a scope.
use Rattle.std.proofs.Common.{◌≡◌, ◌≢◌, ℕ, ◌<◌, ◌≤◌, Bool, true, false, cond, not, ◌||◌, ◌&&◌, ◌==◌, List, [], ◌∷◌, ◌++◌, filter, Option, Some, None, is_none, refl, sym, ap, ◌∙◌, subst, arith}
use Rattle.std.specs.List.{find, list_any}
use Rattle.std.proofs.lemmas.Bool.{eqb-true, eq-eqb, ne_eqb, true≢false, or_right, and_parts, and_left, true_from_ne_false, not-true}
use Rattle.rx_rules.proofs.Common.{PlaceId, TaskId, ScopeId, Fault, Tree, is_task, task_of, is_scope, opened_by, own_scope, on_chain, is_under, quiet, the_root, change_first, waiting, resumed, hit, is_hit, strike, without, born, opened, home_for, after_end, AllowedAct, made_act, Reached, opens, acts, dies, joins}
use Rattle.rx_base.proofs.Elements.{find-passes}
use Rattle.rx_rules.proofs.Lookups.{number-of}
use Rattle.rx_rules.specs.declared.tasks.Where.TheVariants.{At}
use Rattle.rx_rules.specs.declared.tasks.Blow.{Blow}
use Rattle.rx_rules.specs.declared.tasks.Task.{Task}
use Rattle.rx_rules.specs.declared.tasks.Scope.{Scope}
use Rattle.rx_rules.specs.declared.tasks.Kind.{Kind}
use Rattle.rx_rules.specs.declared.tasks.Kind.TheVariants.{Finish, Call}
use Rattle.rx_rules.specs.declared.entries.Act.{Act}
use Rattle.rx_rules.specs.declared.entries.Act.TheVariants.{Open, At as Calls, Spawn, Arrive, Wait, Release, End, Print, Census}
use Rattle.rx_rules.specs.Reached.{ends}
use Rattle.rx_tree_laws.specs.Chains.{meets, HasOpener, Opened, Falls}
use Rattle.rx_tree_laws.specs.Sound.{Each, TasksFall, TaskFits, Sound}
use Rattle.rx_tree_laws.specs.Owning.{WaiterOwns, OpenersOlder}
use Rattle.rx_tree_laws.proofs.Changes.{each_found, each_more, each_map, each_change, each_filter}
use Rattle.rx_tree_laws.proofs.Chains.{met_start, meets_skips}
use Rattle.rx_tree_laws.proofs.Stay.{faulted, meets_faulted, any_faulted, fall_filter}
use Rattle.rx_tree_laws.proofs.Blows.{hit_number, hit_under}
use Rattle.rx_tree_laws.proofs.Reach.{task_below}
use Rattle.rx_tree_laws.proofs.Releasing.{meets_filter, passes_marks, each_filtered, each_both, each_none, any_filter, drops, leaves, stayer_free, on_meets}
use Rattle.rx_tree_laws.proofs.Reached.{sound}
use Rattle.rx_tree_laws.proofs.Below.{met_newer, own_stays, find_kept, free_of, any_found, found_any}

-- of a task, where these scopes stand
abbrev pub Younger : List Scope → Task → Type 0
Younger gs x = (s : ScopeId) (o : TaskId) → meets s gs (Some x.under) ≡ true → list_any (λ k. is_scope s k && opened_by o k) gs ≡ true → o.0 < x.number.0

abbrev pub Owns : List Scope → Task → Type 0
Owns gs x = x.struck ≡ None → x.waits ≡ true → list_any (opened_by x.number) gs ≡ true

pub record Apt (T : Tree) : Type 0 where
  pub younger : Each (Younger T.scopes) T.tasks
  pub owns : Each (Owns T.scopes) T.tasks

-- the openers of scopes have numbers below n
abbrev pub OpenersBelow : ℕ → List Scope → Type 0
OpenersBelow n gs = Each (λ k. (o : TaskId) → opened_by o k ≡ true → o.0 < n) gs

pub openers_below : (n : ℕ) (ts : List Task) (gs : List Scope) → TasksFall n ts → Opened ts gs → OpenersBelow n gs
openers_below n ts [] f h = tt
openers_below n ts (g ∷ gs) f h = (one g.opener refl h.0, openers_below n ts gs f h.1) where
  one : (w : Option TaskId) → g.opener ≡ w → HasOpener ts g gs w → (o : TaskId) → opened_by o g ≡ true → o.0 < n
  one None e k o mine = absurd (true≢false (sym mine ∙ rw e))
  one (Some v) e k o mine =
      let same : v.0 ≡ o.0 = eqb-true v.0 o.0 (rw e at mine) in
      let low : v.0 < n = task_below n ts v k.task f k.stands in
      omega arith

pub below_any : (n : ℕ) (gs : List Scope) (s : ScopeId) (o : TaskId) → OpenersBelow n gs → list_any (λ k. is_scope s k && opened_by o k) gs ≡ true → o.0 < n
below_any n [] s o h a = absurd (true≢false (sym a))
below_any n (g ∷ gs) s o h a =
    (elim (is_scope s g && opened_by o g) as (λ b. is_scope s g && opened_by o g ≡ b → b || list_any (λ k. is_scope s k && opened_by o k) gs ≡ true → o.0 < n) [
      | true ↦ λ e k. h.0 o (and_parts (is_scope s g) (opened_by o g) e).1
      | false ↦ λ e k. below_any n gs s o h.1 k
    ]) refl a

-- A new scope.

younger_up : (g : Scope) (gs : List Scope) (x : Task) → x.under.0 < g.number.0 → Falls g.number.0 gs → Younger gs x → Younger (g ∷ gs) x
younger_up g gs x low f y = λ s o m a.
    let m2 : meets s gs (Some x.under) ≡ true = sym (meets_skips s g gs x.under low) ∙ m in
    let le : s.0 ≤ x.under.0 = met_newer s g.number.0 gs x.under f m2 in
    let apart : is_scope s g ≡ false = ne_eqb g.number.0 s.0 (λ e. absurd (omega arith)) in
    y s o m2 (sym (ap (λ b. b || list_any (λ k. is_scope s k && opened_by o k) gs) (and_left (is_scope s g) (opened_by o g) apart)) ∙ a)

all_younger_up : (T : Tree) (g : Scope) → Sound T → g.number.0 ≡ T.next_scope → Each (Younger T.scopes) T.tasks → Each (Younger (g ∷ T.scopes)) T.tasks
all_younger_up T g h e y =
    each_more (λ x. TaskFits T.dead T.places T.scopes x × Younger T.scopes x) (Younger (g ∷ T.scopes))
    (λ x b.
    let low : x.under.0 < T.next_scope = met_start the_root T.next_scope T.scopes x.under h.falls b.0.rooted in
    younger_up g T.scopes x (omega arith) (subst (λ n. Falls n T.scopes) (sym e) h.falls) b.1)
    T.tasks (each_both (TaskFits T.dead T.places T.scopes) (Younger T.scopes) T.tasks h.tasks y)

all_own_up : (g : Scope) (gs : List Scope) (ts : List Task) → Each (Owns gs) ts → Each (Owns (g ∷ gs)) ts
all_own_up g gs ts w = each_more (Owns gs) (Owns (g ∷ gs)) (λ x k u v. or_right (opened_by x.number g) (list_any (opened_by x.number) gs) (k u v)) ts w

-- A task that begins to wait has a scope.

own_waiting : (t : TaskId) (gs : List Scope) (ts : List Task) → list_any (opened_by t) gs ≡ true → Each (Owns gs) ts → Each (Owns gs) (change_first (is_task t) waiting ts)
own_waiting t gs ts a w =
    each_change (Owns gs) (is_task t) waiting ts
    (λ x k old u v.
    let num : x.number.0 ≡ t.0 = eqb-true x.number.0 t.0 (find-passes (is_task t) ts x k) in
    let same : t ≡ x.number = ap (λ (n : ℕ). let q : TaskId = record { 0 = n } in q) (sym num) in
    subst (λ (q : TaskId). list_any (opened_by q) gs ≡ true) same a) w

-- Faults of scopes.

younger_faulted : (b e : Scope → List Fault) (q : Scope → Bool) (gs : List Scope) (ts : List Task) → Each (Younger gs) ts → Each (Younger (change_first q (faulted b e) gs)) ts
younger_faulted b e q gs ts y =
    each_more (Younger gs) (Younger (change_first q (faulted b e) gs))
    (λ x k s o m a. k s o (sym (meets_faulted b e q s gs (Some x.under)) ∙ m) (sym (any_faulted b e q (λ g. is_scope s g && opened_by o g) (λ g. refl) gs) ∙ a)) ts y

own_faulted : (b e : Scope → List Fault) (q : Scope → Bool) (gs : List Scope) (ts : List Task) → Each (Owns gs) ts → Each (Owns (change_first q (faulted b e) gs)) ts
own_faulted b e q gs ts w =
    each_more (Owns gs) (Owns (change_first q (faulted b e) gs)) (λ x k u v. any_faulted b e q (opened_by x.number) (λ g. refl) gs ∙ k u v) ts w

-- Releases.

younger_stays : (T : Tree) (s : ScopeId) → Sound T → quiet T s ≡ true → Each (Younger T.scopes) T.tasks → Each (Younger (without T s).scopes) (without T s).tasks
younger_stays T s h still y =
    let q : Scope → Bool = λ g. not (on_chain T s g.number) in
    let quiets : Each (λ x. is_under T s x && is_none x.struck ≡ false) T.tasks = each_none (λ x. is_under T s x && is_none x.struck) T.tasks (not-true _ still) in
    each_filtered (λ x. Younger T.scopes x × (is_under T s x && is_none x.struck ≡ false)) (Younger (filter q T.scopes)) (λ x. not (leaves T s x))
    (λ x f e r o m a.
    f.0 r o (sym (meets_filter q r T.scopes (Some x.under) (passes_marks q s T.scopes (Some x.under) (drops T s h) (stayer_free T s x f.1 e))) ∙ m)
    (true_from_ne_false (list_any (λ k. is_scope r k && opened_by o k) T.scopes) (λ n. true≢false (sym a ∙ any_filter (λ k. is_scope r k && opened_by o k) q T.scopes n))))
    T.tasks (each_both (Younger T.scopes) (λ x. is_under T s x && is_none x.struck ≡ false) T.tasks y quiets)

pub tasks_below : (n : ℕ) (ts : List Task) → TasksFall n ts → Each (λ x. x.number.0 < n) ts
tasks_below n [] f = tt
tasks_below n (x ∷ xs) f =
    let a : x.number.0 < n = f.0 in
    (a, each_more (λ y. y.number.0 < x.number.0) (λ y. y.number.0 < n) (λ (y : Task) (b : y.number.0 < x.number.0). omega arith) xs (tasks_below x.number.0 xs f.1))

-- each task of the list is the one that its number finds
pub each_stands : (n : ℕ) (ts : List Task) → TasksFall n ts → Each (λ x. find (is_task x.number) ts ≡ Some x) ts
each_stands n [] f = tt
each_stands n (x ∷ xs) f = (
  rw (eq-eqb x.number.0 x.number.0 refl) refl,
  each_more (λ y. (y.number.0 < x.number.0) × (find (is_task y.number) xs ≡ Some y)) (λ y. find (is_task y.number) (x ∷ xs) ≡ Some y)
      (λ (y : Task) b. let low : y.number.0 < x.number.0 = b.0 in let apart : x.number.0 == y.number.0 ≡ false = ne_eqb x.number.0 y.number.0 (λ e. absurd (omega arith)) in rw apart b.1) xs
      (each_both (λ y. y.number.0 < x.number.0) (λ y. find (is_task y.number) xs ≡ Some y) xs (tasks_below x.number.0 xs f.1) (each_stands x.number.0 xs f.1)),
)

-- a change of the one task with a number
change_one : (P Q : Task → Type 0) (t : TaskId) (f : Task → Task) (n : ℕ) (ts : List Task) → TasksFall n ts → ((x : Task) → Q (f x)) → ((x : Task) → x.number.0 ≢ t.0 → P x → Q x) → Each P ts → Each Q (change_first (is_task t) f ts)
change_one P Q t f n [] fall now other h = tt
change_one P Q t f n (x ∷ xs) fall now other h =
    (elim (is_task t x) as (λ b. is_task t x ≡ b → Each Q (cond b (f x ∷ xs) (x ∷ change_first (is_task t) f xs))) [
      | true ↦ λ e.
          let same : x.number.0 ≡ t.0 = eqb-true x.number.0 t.0 e in (
            now x,
            each_more (λ y. (y.number.0 < x.number.0) × P y) Q (λ (y : Task) b. let low : y.number.0 < x.number.0 = b.0 in other y (λ k. absurd (omega arith)) b.1) xs (each_both (λ y. y.number.0 < x.number.0) P xs (tasks_below x.number.0 xs fall.1) h.1),
          )
      | false ↦ λ e. (other x (λ k. true≢false (sym (eq-eqb x.number.0 t.0 k) ∙ e)) h.0, change_one P Q t f x.number.0 xs fall.1 now other h.1)
    ]) refl

-- who waits beside the one that releases keeps a scope
own_stays_on : (T : Tree) (t : TaskId) (g : Scope) → Sound T → own_scope T t ≡ Some g → quiet T g.number ≡ true → Each (Owns T.scopes) T.tasks → Each (Owns (without T g.number).scopes) (change_first (is_task t) resumed (without T g.number).tasks)
own_stays_on T t g h own still w =
    let q : Scope → Bool = λ k. not (on_chain T g.number k.number) in
    change_one (λ x. x.number.0 ≢ t.0 → Owns (filter q T.scopes) x) (Owns (filter q T.scopes)) t resumed T.next_task (without T g.number).tasks
    (fall_filter (λ x. not (leaves T g.number x)) T.next_task T.tasks h.tasks_fall)
    (λ x u v. absurd (true≢false (sym v)))
    (λ x other k. k other)
    (each_filter (λ x. x.number.0 ≢ t.0 → Owns (filter q T.scopes) x) (λ x. not (leaves T g.number x)) T.tasks
    (each_more (λ x. (find (is_task x.number) T.tasks ≡ Some x) × Owns T.scopes x) (λ x. x.number.0 ≢ t.0 → Owns (filter q T.scopes) x)
    (λ x b other u v.
    let mine = found_any (opened_by x.number) T.scopes (b.1 u v) in
    let kept : find (opened_by x.number) (filter q T.scopes) ≡ Some mine.0 = find_kept (opened_by x.number) q T.scopes (own_stays T t x.number x g h own still b.0 u other) ∙ mine.1 in
    any_found (opened_by x.number) (filter q T.scopes) mine.0 kept)
    T.tasks (each_both (λ x. find (is_task x.number) T.tasks ≡ Some x) (Owns T.scopes) T.tasks (each_stands T.next_task T.tasks h.tasks_fall) w)))

-- Every entry.

apt_opened : (T : Tree) (t : TaskId) (kind : Kind) (s r : ScopeId) → Sound T → s.0 ≡ T.next_scope → Apt T → Apt (opened T t kind s r)
apt_opened T t kind s r h e a =
    let g : Scope = record { number = s; kind = kind; opener = Some t; home = home_for T t; parent = Some r; body = []; ends = [] } in
    record { younger = all_younger_up T g h e a.younger; owns = all_own_up g T.scopes T.tasks a.owns }

apt_ended : (T : Tree) (t : TaskId) (thrown : List Fault) → Apt T → (o : Option Task) → task_of T t ≡ o → Apt (after_end T t thrown)
apt_ended T t thrown a (Some x) e =
    rw (e, after_end)
    (record {
      younger = younger_faulted (λ g. g.body) (λ g. g.ends ++ thrown) (is_scope x.under) T.scopes (filter (λ y. not (is_task t y)) T.tasks) (each_filter (Younger T.scopes) (λ y. not (is_task t y)) T.tasks a.younger);
      owns = own_faulted (λ g. g.body) (λ g. g.ends ++ thrown) (is_scope x.under) T.scopes (filter (λ y. not (is_task t y)) T.tasks) (each_filter (Owns T.scopes) (λ y. not (is_task t y)) T.tasks a.owns);
    })
apt_ended T t thrown a None e = rw (e, after_end) a

young : (n : ℕ) (gs : List Scope) (T : Tree) (c : TaskId) (under : ScopeId) (from to : PlaceId) → OpenersBelow n gs → c.0 ≡ n → Younger gs (born T c under from to)
young n gs T c under from to b e = λ s o m a. (let low : o.0 < n = below_any n gs s o b a in omega arith)

apt_acts : (T : Tree) (t : TaskId) (act : Act) → Sound T → AllowedAct T t act → Apt T → Apt (made_act T t act)
apt_acts T t (Open s r path) h may a = apt_opened T t Finish s r h may.asks.1 a
apt_acts T t (Calls from to s r callee path) h may a =
    let g : Scope = record { number = s; kind = Call; opener = Some t; home = home_for T t; parent = Some r; body = []; ends = [] } in
    let o : Apt (opened T t Call s r) = apt_opened T t Call s r h may.asks.1 a in
    let low : t.0 < T.next_task = task_below T.next_task T.tasks t may.task h.tasks_fall may.stands in
    let below : OpenersBelow T.next_task (g ∷ T.scopes) = ((λ v mine. let same : t.0 ≡ v.0 = eqb-true t.0 v.0 mine in omega arith), openers_below T.next_task T.tasks T.scopes h.tasks_fall h.opened) in
    let x : Task = born T callee s from to in
    record {
      younger = each_change (Younger (g ∷ T.scopes)) (is_task t) waiting (x ∷ T.tasks) (λ y k old. old) (young T.next_task (g ∷ T.scopes) T callee s from to below may.asks.3, o.younger);
      owns = own_waiting t (g ∷ T.scopes) (x ∷ T.tasks) (ap (λ b. b || list_any (opened_by t) T.scopes) (eq-eqb t.0 t.0 refl)) ((λ u v. absurd (true≢false (sym v))), o.owns);
    }
apt_acts T t (Spawn child s from to path) h may a =
    record {
      younger = (young T.next_task T.scopes T child s from to (openers_below T.next_task T.tasks T.scopes h.tasks_fall h.opened) may.asks.1, a.younger);
      owns = ((λ u v. absurd (true≢false (sym v))), a.owns);
    }
apt_acts T t (Arrive p) h may a =
    record {
      younger = each_change (Younger T.scopes) (is_task t) (λ y. record y { place = At p }) T.tasks (λ y k old. old) a.younger;
      owns = each_change (Owns T.scopes) (is_task t) (λ y. record y { place = At p }) T.tasks (λ y k old. old) a.owns;
    }
apt_acts T t (Wait s thrown) h may a =
    let gs : List Scope = change_first (is_scope s) (faulted (λ g. thrown) (λ g. g.ends)) T.scopes in
    record {
      younger = each_change (Younger gs) (is_task t) waiting T.tasks (λ y k old. old) (younger_faulted (λ g. thrown) (λ g. g.ends) (is_scope s) T.scopes T.tasks a.younger);
      owns = own_waiting t gs T.tasks (any_faulted (λ g. thrown) (λ g. g.ends) (is_scope s) (opened_by t) (λ g. refl) T.scopes ∙ any_found (opened_by t) T.scopes may.asks.1 may.asks.2.0) (own_faulted (λ g. thrown) (λ g. g.ends) (is_scope s) T.scopes T.tasks a.owns);
    }
apt_acts T t (Release s lost masked thrown) h may a =
    let g : Scope = may.asks.1 in
    let is_it : g.number ≡ s = may.asks.2.1 in
    let still : quiet T g.number ≡ true = subst (λ (v : ScopeId). quiet T v ≡ true) (sym is_it) may.asks.3.is_quiet in
    record {
      younger = each_change (Younger (without T s).scopes) (is_task t) resumed (without T s).tasks (λ y k old. old) (younger_stays T s h may.asks.3.is_quiet a.younger);
      owns = subst (λ (v : ScopeId). Each (Owns (without T v).scopes) (change_first (is_task t) resumed (without T v).tasks)) is_it (own_stays_on T t g h may.asks.2.0 still a.owns);
    }
apt_acts T t (End thrown) h may a = apt_ended T t thrown a (task_of T t) refl
apt_acts T t (Print value path) h may a = a
apt_acts T t (Census places path) h may a = a

-- at the root's release no unstruck task is left
apt_ends : (T : Tree) → Sound T → quiet T the_root ≡ true → Apt T → Apt (without T the_root)
apt_ends T h still a =
    record {
      younger = younger_stays T the_root h still a.younger;
      owns =
          each_filter (Owns (without T the_root).scopes) (λ x. not (leaves T the_root x)) T.tasks
          (each_more (λ x. (find (is_task x.number) T.tasks ≡ Some x) × TaskFits T.dead T.places T.scopes x) (Owns (without T the_root).scopes)
          (λ x b u v. absurd (true≢false (sym b.1.rooted ∙ free_of T the_root x.number x still b.0 u)))
          T.tasks (each_both (λ x. find (is_task x.number) T.tasks ≡ Some x) (TaskFits T.dead T.places T.scopes) T.tasks (each_stands T.next_task T.tasks h.tasks_fall) h.tasks));
    }

pub hit_free : (b : Blow) (x : Task) → (hit b x).struck ≡ None → x.struck ≡ None
hit_free b x e =
    (elim (is_none x.struck && is_hit b.place x.place) as (λ c. (cond c (record x { struck = Some b }) x).struck ≡ None → x.struck ≡ None) [ true ↦ λ k. cc | false ↦ λ k. k ]) e

pub hit_waits : (b : Blow) (x : Task) → (hit b x).waits ≡ x.waits
hit_waits b x = elim (is_none x.struck && is_hit b.place x.place) as (λ c. (cond c (record x { struck = Some b }) x).waits ≡ x.waits) [ true ↦ refl | false ↦ refl ]

apt_dies : (T : Tree) (b : Blow) → Apt T → Apt (strike b T)
apt_dies T b a =
    record {
      younger =
          each_map (Younger T.scopes) (Younger T.scopes) (hit b)
          (λ x y s o m k. subst (λ (v : TaskId). o.0 < v.0) (sym (hit_number b x)) (y s o (subst (λ (v : ScopeId). meets s T.scopes (Some v) ≡ true) (hit_under b x) m) k)) T.tasks a.younger;
      owns =
          each_map (Owns T.scopes) (Owns T.scopes) (hit b)
          (λ x w u v. subst (λ (n : TaskId). list_any (opened_by n) T.scopes ≡ true) (sym (hit_number b x)) (w (hit_free b x u) (sym (hit_waits b x) ∙ v))) T.tasks a.owns;
    }

pub apt : {T : Tree} → Reached T → Apt T
apt (opens places low high) = record { younger = ((λ s o m a. absurd (true≢false (sym a ∙ at_root s o))), tt); owns = ((λ u v. absurd (true≢false (sym v))), tt) } where
  at_root : (s : ScopeId) (o : TaskId) → (0 == s.0 && false || false) ≡ false
  at_root s o = elim (0 == s.0) as (λ b. (b && false || false) ≡ false) [ true ↦ refl | false ↦ refl ]
apt (acts {T = T} t act r may) = apt_acts T t act (sound r) may (apt r)
apt (ends {T = T} lost masked thrown r may) = apt_ends T (sound r) may.2.is_quiet (apt r)
apt (dies {T = T} b r may old) = apt_dies T b (apt r)
apt (joins {T = T} p r may) = let a : Apt T = apt r in record { younger = a.younger; owns = a.owns }

pub waiter_owns : WaiterOwns
waiter_owns T t x r found free waits =
    let a : Apt T = apt r in
    let num : x.number.0 ≡ t.0 = number-of T t x found in
    let same : x.number ≡ t = ap (λ (n : ℕ). let q : TaskId = record { 0 = n } in q) num in
    found_any (opened_by t) T.scopes (subst (λ (v : TaskId). list_any (opened_by v) T.scopes ≡ true) same (each_found (Owns T.scopes) (is_task t) T.tasks x a.owns found free waits))

opens_it : (o : TaskId) (g : Scope) → g.opener ≡ Some o → opened_by o g ≡ true
opens_it o g e = rw e (eq-eqb o.0 o.0 refl)

-- a scope that is found is its opener's
found_opener : (s : ScopeId) (o : TaskId) (gs : List Scope) (g : Scope) → find (is_scope s) gs ≡ Some g → opened_by o g ≡ true → list_any (λ k. is_scope s k && opened_by o k) gs ≡ true
found_opener s o [] g e mine = cc
found_opener s o (k ∷ gs) g e mine =
    (elim (is_scope s k) as (λ b. cond b (Some k) (find (is_scope s) gs) ≡ Some g → (b && opened_by o k || list_any (λ h. is_scope s h && opened_by o h) gs) ≡ true) [
      | true ↦ λ w. let same : k ≡ g = cc in let his : opened_by o k ≡ true = ap (opened_by o) same ∙ mine in rw his refl
      | false ↦ λ w. found_opener s o gs g w mine
    ]) e

-- so is the last one that it opened
pub found_own : (o : TaskId) (gs : List Scope) (g : Scope) → find (opened_by o) gs ≡ Some g → list_any (λ k. is_scope g.number k && opened_by o k) gs ≡ true
found_own o [] g e = cc
found_own o (k ∷ gs) g e =
    (elim (opened_by o k) as (λ b. cond b (Some k) (find (opened_by o) gs) ≡ Some g → (is_scope g.number k && b || list_any (λ h. is_scope g.number h && opened_by o h) gs) ≡ true) [
      | true ↦ λ w. let same : g.number.0 ≡ k.number.0 = (let q : k ≡ g = cc in ap (λ (v : Scope). v.number.0) (sym q)) in let it : k.number.0 == g.number.0 ≡ true = eq-eqb k.number.0 g.number.0 (sym same) in rw it refl
      | false ↦ λ w. or_right (is_scope g.number k && false) (list_any (λ h. is_scope g.number h && opened_by o h) gs) (found_own o gs g w)
    ]) e

pub openers_older : OpenersOlder
openers_older T t o x g r found stands opener under =
    let a : Apt T = apt r in
    let num : x.number.0 ≡ t.0 = number-of T t x found in
    let low : o.0 < x.number.0 = each_found (Younger T.scopes) (is_task t) T.tasks x a.younger found g.number o (sym (on_meets g.number T.scopes (Some x.under)) ∙ under) (found_opener g.number o T.scopes g stands (opens_it o g opener)) in
    omega arith
