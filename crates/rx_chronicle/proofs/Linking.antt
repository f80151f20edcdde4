-- Each own scope of an unstruck task has the one before it as its parent, and the oldest the scope that the task hangs under.
use Rattle.std.proofs.Common.{◌≡◌, ◌≢◌, ℕ, suc, ◌<◌, ◌≤◌, ◌==◌, Bool, true, false, cond, not, ◌&&◌, List, [], ◌∷◌, ◌++◌, map, filter, Option, Some, None, is_some, is_none, option_map, All, refl, ap, ◌∙◌, sym, subst, arith}
use Rattle.std.specs.List.{find}
use Rattle.std.proofs.lemmas.Bool.{eqb-true, eqb-false, ne_eqb}
use Rattle.rx_rules.proofs.Common.{TaskId, ScopeId, PlaceSet, Fault, Tree, is_task, task_of, is_scope, is_under, opened_by, inner, the_root, change_first, waiting, resumed, born, hit, is_hit, made, made_act, after_end, Allowed, AllowedAct, without, home_for, change_scope, AllAllowed, fold_from, Reached, IsOlder}
use Rattle.rx_base.proofs.SameIds.{task-is}
use Rattle.rx_rules.specs.declared.entries.Act.{Act}
use Rattle.rx_rules.specs.declared.entries.Act.TheVariants.{Open, At as Calls, Spawn, Arrive, Wait, Release, End, Print, Census}
use Rattle.rx_rules.specs.declared.entries.Entry.{Entry}
use Rattle.rx_rules.specs.declared.entries.Entry.TheVariants.{Step, Root, Death, Join}
use Rattle.rx_rules.specs.declared.tasks.Blow.{Blow}
use Rattle.rx_rules.specs.declared.tasks.Where.TheVariants.{At}
use Rattle.rx_rules.specs.declared.tasks.Task.{Task}
use Rattle.rx_rules.specs.declared.tasks.Scope.{Scope}
use Rattle.rx_rules.specs.declared.tasks.Kind.{Kind}
use Rattle.rx_rules.specs.declared.tasks.Kind.TheVariants.{Finish, Call}
use Rattle.rx_rules.proofs.Lookups.{number-of}
use Rattle.rx_tree_laws.specs.Chains.{Opened, HasOpener}
use Rattle.rx_tree_laws.specs.Sound.{TasksFall}
use Rattle.rx_tree_laws.proofs.Blows.{hit_number}
use Rattle.rx_tree_laws.proofs.Reached.{sound}
use Rattle.rx_tree_laws.proofs.Reach.{task_below}
use Rattle.rx_tree_laws.proofs.Staying.{find_unfiltered}
use Rattle.rx_tree_laws.proofs.Owning.{release_keeps, release_pops}
use Rattle.rx_tree_laws.proofs.Histories.{reached_now, dead-now}
use Rattle.rx_runs.proofs.Endings.{root_empties}

-- who stands there stands there still, and who does not does not
found-hit : (b : Blow) (x : Task) (r o : Option Task) (c : Bool) → r ≡ option_map (hit b) o → cond c (Some (hit b x)) r ≡ option_map (hit b) (cond c (Some x) o)
found-hit b x r o true h = refl
found-hit b x r o false h = h

pub find-hit : (b : Blow) (t : TaskId) (xs : List Task) → find (is_task t) (map (hit b) xs) ≡ option_map (hit b) (find (is_task t) xs)
find-hit b t [] = refl
find-hit b t (x ∷ xs) =
    let same : is_task t (hit b x) ≡ is_task t x = ap (λ (n : TaskId). n.0 == t.0) (hit_number b x) in
    ap (λ (c : Bool). cond c (Some (hit b x)) (find (is_task t) (map (hit b) xs))) same ∙ found-hit b x (find (is_task t) (map (hit b) xs)) (find (is_task t) xs) (is_task t x) (find-hit b t xs)

-- what links a scope to others: its number, its parent and its kind
abbrev pub Link : Type 0
Link = ScopeId × Option ScopeId × Kind

abbrev pub link : Scope → Link
link g = (g.number, g.parent, g.kind)

-- the own scopes of a task, the newest first
abbrev pub links : Tree → TaskId → List Link
links T t = map link (filter (opened_by t) T.scopes)

abbrev pub top : List Link → ScopeId → ScopeId
top [] u = u
top (p ∷ ps) u = p.0

abbrev pub Linked : List Link → ScopeId → Type 0
Linked [] u = Unit {0}
Linked (p ∷ ps) u = (p.1 ≡ Some (top ps u)) × Linked ps u

abbrev pub AllLinked : Tree → Type 0
AllLinked T = (v : TaskId) (y : Task) → task_of T v ≡ Some y → y.struck ≡ None → Linked (links T v) y.under

found_top : (p : Scope → Bool) (gs : List Scope) (u : ScopeId) → (elim (find p gs) [ Some g ↦ g.number | None ↦ u ]) ≡ top (map link (filter p gs)) u
found_top p [] u = refl
found_top p (g ∷ gs) u =
    elim (p g) as (λ b. (elim (cond b (Some g) (find p gs)) [ Some g ↦ g.number | None ↦ u ]) ≡ top (map link (cond b (g ∷ filter p gs) (filter p gs))) u) [
      | true ↦ refl
      | false ↦ found_top p gs u
    ]

pub inner_top : (T : Tree) (x : Task) → inner T x ≡ top (links T x.number) x.under
inner_top T x = found_top (opened_by x.number) T.scopes x.under

-- Tasks.

-- a task that was found before, as far as links go
pub record Before (xs : List Task) (v : TaskId) (y : Task) : Type 0 where
  pub task : Task
  pub found : find (is_task v) xs ≡ Some task
  pub under : task.under ≡ y.under
  pub struck : task.struck ≡ y.struck

pub before_change : (f : Task → Task) (t v : TaskId) (xs : List Task) (y : Task) → ((x : Task) → ((f x).number ≡ x.number) × ((f x).under ≡ x.under) × ((f x).struck ≡ x.struck)) → find (is_task v) (change_first (is_task t) f xs) ≡ Some y → Before xs v y
before_change f t v [] y keeps e = absurd (let w : ⊥ = cc in w)
before_change f t v (x ∷ xs) y keeps e =
    (elim (is_task t x) as (λ b. find (is_task v) (cond b (f x ∷ xs) (x ∷ change_first (is_task t) f xs)) ≡ Some y → Before (x ∷ xs) v y) [
      | true ↦ λ k. changed (subst (λ (n : TaskId). cond (n.0 == v.0) (Some (f x)) (find (is_task v) xs) ≡ Some y) (keeps x).0 k)
      | false ↦ λ k. kept (before_change f t v xs y keeps) k
    ]) e
  where
    changed : cond (is_task v x) (Some (f x)) (find (is_task v) xs) ≡ Some y → Before (x ∷ xs) v y
    changed k =
        (elim (is_task v x) as (λ b. is_task v x ≡ b → cond b (Some (f x)) (find (is_task v) xs) ≡ Some y → Before (x ∷ xs) v y) [
          | true ↦ λ w j. (let same : f x ≡ y = cc in record { task = x; found = rw w refl; under = sym (keeps x).1 ∙ ap (λ z. z.under) same; struck = sym (keeps x).2 ∙ ap (λ z. z.struck) same })
          | false ↦ λ w j. record { task = y; found = rw w j; under = refl; struck = refl }
        ]) refl k

    kept : (find (is_task v) (change_first (is_task t) f xs) ≡ Some y → Before xs v y) → cond (is_task v x) (Some x) (find (is_task v) (change_first (is_task t) f xs)) ≡ Some y → Before (x ∷ xs) v y
    kept rest k =
        (elim (is_task v x) as (λ b. is_task v x ≡ b → cond b (Some x) (find (is_task v) (change_first (is_task t) f xs)) ≡ Some y → Before (x ∷ xs) v y) [
          | true ↦ λ w j. (let same : x ≡ y = cc in record { task = x; found = rw w refl; under = ap (λ z. z.under) same; struck = ap (λ z. z.struck) same })
          | false ↦ λ w j. (let r = rest j in record { task = r.task; found = rw w r.found; under = r.under; struck = r.struck })
        ]) refl k

before_hit : (b : Blow) (v : TaskId) (xs : List Task) (y : Task) → y.struck ≡ None → find (is_task v) (map (hit b) xs) ≡ Some y → Before xs v y
before_hit b v xs y free e =
    (elim (find (is_task v) xs) as (λ o. find (is_task v) xs ≡ o → option_map (hit b) o ≡ Some y → Before xs v y) [
      | Some x ↦ λ w k. (let same : hit b x ≡ y = cc in missed x w same (is_none x.struck && is_hit b.place x.place) refl)
      | None ↦ λ w k. absurd (let z : ⊥ = cc in z)
    ]) refl (sym (find-hit b v xs) ∙ e)
  where
    missed : (x : Task) → find (is_task v) xs ≡ Some x → hit b x ≡ y → (c : Bool) → (is_none x.struck && is_hit b.place x.place) ≡ c → Before xs v y
    missed x w same true c = absurd (let q : hit b x ≡ record x { struck = Some b } = ap (λ (k : Bool). cond k (record x { struck = Some b }) x) c in let r : Some b ≡ None = ap (λ (z : Task). z.struck) (sym q ∙ same) ∙ free in let z : ⊥ = cc in z)
    missed x w same false c = (let q : hit b x ≡ x = ap (λ (k : Bool). cond k (record x { struck = Some b }) x) c in let s : x ≡ y = sym q ∙ same in record { task = x; found = w; under = ap (λ (z : Task). z.under) s; struck = ap (λ (z : Task). z.struck) s })

-- Scopes.

pub none_opened : (ts : List Task) (n : ℕ) (gs : List Scope) (v : TaskId) → TasksFall n ts → Opened ts gs → n ≤ v.0 → filter (opened_by v) gs ≡ []
none_opened ts n [] v f h low = refl
none_opened ts n (g ∷ gs) v f h low = by g.opener refl h.0 (none_opened ts n gs v f h.1 low)
  where
    by : (o : Option TaskId) → g.opener ≡ o → HasOpener ts g gs o → filter (opened_by v) gs ≡ [] → filter (opened_by v) (g ∷ gs) ≡ []
    by None e k rest = rw (e, opened_by) rest
    by (Some o) e k rest =
        let less : o.0 < n = task_below n ts o k.task f k.stands in
        let apart : (o.0 == v.0) ≡ false = ne_eqb o.0 v.0 (λ w. absurd (omega (arith, less, low, w))) in
        rw (e, opened_by) (rw apart rest)

-- faults change no link
pub links_faulted : (p q : Scope → Bool) (f : Scope → Scope) (gs : List Scope) → ((g : Scope) → link (f g) ≡ link g) → ((g : Scope) → p (f g) ≡ p g) → map link (filter p (change_first q f gs)) ≡ map link (filter p gs)
links_faulted p q f [] keeps same = refl
links_faulted p q f (g ∷ gs) keeps same =
    elim (q g) as (λ b. map link (filter p (cond b (f g ∷ gs) (g ∷ change_first q f gs))) ≡ map link (filter p (g ∷ gs))) [
      | true ↦ rw (same g) (elim (p g) as (λ b. map link (cond b (f g ∷ filter p gs) (filter p gs)) ≡ map link (cond b (g ∷ filter p gs) (filter p gs))) [ true ↦ ap (λ v. v ∷ map link (filter p gs)) (keeps g) | false ↦ refl ])
      | false ↦ elim (p g) as (λ b. map link (cond b (g ∷ filter p (change_first q f gs)) (filter p (change_first q f gs))) ≡ map link (cond b (g ∷ filter p gs) (filter p gs))) [
        | true ↦ ap (λ v. link g ∷ v) (links_faulted p q f gs keeps same)
        | false ↦ links_faulted p q f gs keeps same
      ]
    ]

module _ (T : Tree) (r : Reached T) (h : AllLinked T) where
  was : (v : TaskId) (y : Task) → Before T.tasks v y → y.struck ≡ None → Linked (links T v) y.under
  was v y b free = subst (λ (u : ScopeId). Linked (links T v) u) b.under (h v b.task b.found (b.struck ∙ free))

  -- a scope more, inside the inner one of its opener
  opens_on : (t : TaskId) (x : Task) (kind : Kind) (s p : ScopeId) (v : TaskId) (y : Task) → task_of T t ≡ Some x → p ≡ inner T x → task_of T v ≡ Some y → y.struck ≡ None → Linked (map link (filter (opened_by v) (record { number = s; kind = kind; opener = Some t; home = home_for T t; parent = Some p; body = []; ends = [] } ∷ T.scopes))) y.under
  opens_on t x kind s p v y at parent found free =
      (elim (t.0 == v.0) as (λ b. t.0 == v.0 ≡ b → Linked (map link (cond b (record { number = s; kind = kind; opener = Some t; home = home_for T t; parent = Some p; body = []; ends = [] } ∷ filter (opened_by v) T.scopes) (filter (opened_by v) T.scopes))) y.under) [
        | true ↦ λ e.
            let it : t ≡ v = task-is t v (eqb-true t.0 v.0 e) in
            let same : Some x ≡ Some y = sym at ∙ (ap (λ (w : TaskId). task_of T w) it ∙ found) in
            let xy : x ≡ y = cc in
            let own : x.number ≡ v = task-is x.number v (number-of T t x at ∙ ap (λ (w : TaskId). w.0) it) in
            (ap (λ (q : ScopeId). Some q) (parent ∙ (inner_top T x ∙ (ap (λ (w : TaskId). top (links T w) x.under) own ∙ ap (λ (z : Task). top (links T v) z.under) xy))), h v y found free)
        | false ↦ λ e. h v y found free
      ]) refl

  -- a task that is not yet born has no scope of its own
  unborn : (v : TaskId) → T.next_task ≤ v.0 → links T v ≡ []
  unborn v low = ap (map link) (none_opened T.tasks T.next_task T.scopes v (sound r).tasks_fall (sound r).opened low)

  acts_below : (t : TaskId) (x : Task) → task_of T t ≡ Some x → t.0 < T.next_task
  acts_below t x e = task_below T.next_task T.tasks t x (sound r).tasks_fall e

  calls_on : (t : TaskId) (x : Task) (s p : ScopeId) (child : Task) (v : TaskId) (y z : Task) → task_of T t ≡ Some x → p ≡ inner T x → child.number.0 ≡ T.next_task → find (is_task v) (child ∷ T.tasks) ≡ Some z → z.under ≡ y.under → z.struck ≡ None → Linked (map link (filter (opened_by v) (record { number = s; kind = Call; opener = Some t; home = home_for T t; parent = Some p; body = []; ends = [] } ∷ T.scopes))) y.under
  calls_on t x s p child v y z at parent next found under free =
      subst (λ (u : ScopeId). Linked (map link (filter (opened_by v) (record { number = s; kind = Call; opener = Some t; home = home_for T t; parent = Some p; body = []; ends = [] } ∷ T.scopes))) u) under
      ((elim (is_task v child) as (λ b. is_task v child ≡ b → cond b (Some child) (find (is_task v) T.tasks) ≡ Some z → Linked (map link (filter (opened_by v) (record { number = s; kind = Call; opener = Some t; home = home_for T t; parent = Some p; body = []; ends = [] } ∷ T.scopes))) z.under) [
        | true ↦ λ w k.
            let is : child.number.0 ≡ v.0 = eqb-true child.number.0 v.0 w in
            let less : t.0 < T.next_task = acts_below t x at in
            let apart : (t.0 == v.0) ≡ false = ne_eqb t.0 v.0 (λ q. absurd (omega (arith, less, is, next, q))) in
            let none : links T v ≡ [] = unborn v (omega (arith, is, next)) in
            rw apart (subst (λ (ls : List Link). Linked ls z.under) (sym none) tt)
        | false ↦ λ w k. opens_on t x Call s p v z at parent k free
      ]) refl found)

  release_on : (t : TaskId) (s : ScopeId) (lost : PlaceSet) (masked : ℕ) (thrown : List Fault) (may : AllowedAct T t (Release s lost masked thrown)) (v : TaskId) (z : Task) → task_of T v ≡ Some z → z.struck ≡ None → Linked (links (made_act T t (Release s lost masked thrown)) v) z.under
  release_on t s lost masked thrown may v z found free =
      (elim (v.0 == t.0) as (λ b. v.0 == t.0 ≡ b → Linked (links (made_act T t (Release s lost masked thrown)) v) z.under) [
        | true ↦ λ w.
            let it : v ≡ t = task-is v t (eqb-true v.0 t.0 w) in
            let pops = release_pops T t s lost masked thrown r may in
            let all : Linked (links T t) z.under = h t z (subst (λ (u : TaskId). task_of T u ≡ Some z) it found) free in
            let split : Linked (link pops.0 ∷ links (made_act T t (Release s lost masked thrown)) t) z.under = subst (λ (gs : List Scope). Linked (map link gs) z.under) pops.2 all in
            subst (λ (u : TaskId). Linked (links (made_act T t (Release s lost masked thrown)) u) z.under) (sym it) split.1
        | false ↦ λ w.
            let own : z.number ≡ v = task-is z.number v (number-of T v z found) in
            let there : task_of T z.number ≡ Some z = subst (λ (u : TaskId). task_of T u ≡ Some z) (sym own) found in
            let apart : z.number.0 ≢ t.0 = λ e. eqb-false v.0 t.0 w (sym (ap (λ (u : TaskId). u.0) own) ∙ e) in
            let keeps = release_keeps T t s lost masked thrown z r may there free apart in
            let same : links (made_act T t (Release s lost masked thrown)) z.number ≡ links T z.number = ap (map link) keeps in
            subst (λ (u : TaskId). Linked (links (made_act T t (Release s lost masked thrown)) u) z.under) own
            (subst (λ (ls : List Link). Linked ls z.under) (sym same) (h z.number z there free))
      ]) refl

  end_on : (t : TaskId) (thrown : List Fault) (x : Task) (v : TaskId) (y : Task) → task_of T t ≡ Some x → task_of (after_end T t thrown) v ≡ Some y → y.struck ≡ None → Linked (links (after_end T t thrown) v) y.under
  end_on t thrown x v y at found free =
      let V : Tree = change_scope (λ g. record g { ends = g.ends ++ thrown }) x.under (record T { tasks = filter (λ z. not (is_task t z)) T.tasks }) in
      let same : after_end T t thrown ≡ V = rw (at, after_end) refl in
      let there : find (is_task v) (filter (λ z. not (is_task t z)) T.tasks) ≡ Some y = subst (λ (W : Tree). task_of W v ≡ Some y) same found in
      let before : task_of T v ≡ Some y = find_unfiltered (λ z. not (is_task t z)) v T.next_task T.tasks y (sound r).tasks_fall there in
      let own : links V v ≡ links T v = links_faulted (opened_by v) (is_scope x.under) (λ g. record g { ends = g.ends ++ thrown }) T.scopes (λ g. refl) (λ g. refl) in
      subst (λ (W : Tree). Linked (links W v) y.under) (sym same)
      (subst (λ (ls : List Link). Linked ls y.under) (sym own) (h v y before free))

  pub linked_act : (t : TaskId) (act : Act) → AllowedAct T t act → AllLinked (made_act T t act)
  linked_act t (Open s p path) may v y found free = opens_on t may.task Finish s p v y may.stands may.asks.2 found free
  linked_act t (Calls from to s p callee path) may v y found free =
      let b = before_change waiting t v (born T callee s from to ∷ T.tasks) y (λ x. (refl, refl, refl)) found in
      calls_on t may.task s p (born T callee s from to) v y b.task may.stands may.asks.2 may.asks.3 b.found b.under (b.struck ∙ free)
  linked_act t (Spawn child s from to path) may v y found free =
      (elim (is_task v (born T child s from to)) as (λ b. is_task v (born T child s from to) ≡ b → cond b (Some (born T child s from to)) (find (is_task v) T.tasks) ≡ Some y → Linked (links T v) y.under) [
        | true ↦ λ w k.
            let is : child.0 ≡ v.0 = eqb-true child.0 v.0 w in
            let next : child.0 ≡ T.next_task = may.asks.1 in
            subst (λ (ls : List Link). Linked ls y.under) (sym (unborn v (omega (arith, is, next)))) tt
        | false ↦ λ w k. h v y k free
      ]) refl found
  linked_act t (Arrive p) may v y found free = was v y (before_change (λ x. record x { place = At p }) t v T.tasks y (λ x. (refl, refl, refl)) found) free
  linked_act t (Wait s thrown) may v y found free =
      let own = links_faulted (opened_by v) (is_scope s) (λ g. record g { body = thrown }) T.scopes (λ g. refl) (λ g. refl) in
      subst (λ (ls : List Link). Linked ls y.under) (sym own) (was v y (before_change waiting t v T.tasks y (λ x. (refl, refl, refl)) found) free)
  linked_act t (Release s lost masked thrown) may v y found free =
      let b = before_change resumed t v (without T s).tasks y (λ x. (refl, refl, refl)) found in
      let there = find_unfiltered (λ x. not (is_under T s x && is_some x.struck)) v T.next_task T.tasks b.task (sound r).tasks_fall b.found in
      subst (λ (u : ScopeId). Linked (links (made_act T t (Release s lost masked thrown)) v) u) b.under (release_on t s lost masked thrown may v b.task there (b.struck ∙ free))
  linked_act t (End thrown) may v y found free = end_on t thrown may.task v y may.stands found free
  linked_act t (Print value path) may v y found free = h v y found free
  linked_act t (Census places path) may v y found free = h v y found free

  pub linked_entry : (n : ℕ) (e : Entry) → Allowed T e → AllLinked (made n T e)
  linked_entry n (Step t act batch) may = linked_act t act may
  linked_entry n (Root lost masked thrown) may = λ v y found free.
      let none : (without T the_root).tasks ≡ [] = root_empties T (sound r) may.2.is_quiet in
      let gone : None ≡ Some y = sym (ap (λ (xs : List Task). find (is_task v) xs) none) ∙ found in absurd (let z : ⊥ = cc in z)
  linked_entry n (Death d) may = λ v y found free. was v y (before_hit (record { place = d; entry = n }) v T.tasks y free found) free
  linked_entry n (Join p) may = λ v y found free. h v y found free

pub linked_from : (n : ℕ) (T : Tree) (es : List Entry) → Reached T → All (IsOlder n) T.dead → AllAllowed n T es → AllLinked T → AllLinked (fold_from n T es)
linked_from n T [] r o may h = h
linked_from n T (e ∷ es) r o may h = linked_from (suc n) (made n T e) es (reached_now n T e r o may.0) (dead-now n T e o) may.1 (linked_entry T r h n e may.0)
