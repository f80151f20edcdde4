-- The end of a task frees at most the nearest opener above it.
use Rattle.std.proofs.Common.{◌≡◌, ◌≢◌, ℕ, ◌<◌, Bool, true, false, cond, not, ◌||◌, ◌&&◌, ◌==◌, List, [], ◌∷◌, ◌++◌, filter, Option, Some, None, is_none, refl, sym, ap, ◌∙◌, subst, arith}
use Rattle.std.specs.List.{find, list_any}
use Rattle.std.proofs.Math.Bool.{or-true}
use Rattle.std.proofs.lemmas.Bool.{eqb-true, eq-eqb, ne_eqb, true≢false, and_left, false_from_ne_true, true_from_ne_false}
use Rattle.rx_rules.proofs.Common.{TaskId, ScopeId, Fault, Tree, is_task, task_of, is_scope, wants, opened_by, own_scope, chain_in, on_chain, the_root, change_first, change_scope, made_act, after_end, Reached}
use Rattle.rx_base.proofs.SameIds.{task-is}
use Rattle.rx_rules.specs.declared.tasks.Task.{Task}
use Rattle.rx_rules.specs.declared.tasks.Scope.{Scope}
use Rattle.rx_rules.specs.declared.entries.Act.TheVariants.{End}
use Rattle.rx_tree_laws.specs.Chains.{meets, HasOpener, Opened, Falls}
use Rattle.rx_tree_laws.specs.Sound.{Sound}
use Rattle.rx_tree_laws.specs.Enabling.{able, unstruck_in, is_left, opener_in, nearest_opener, FreesOne, WayStays, WalkGoesUp, WalkEnds}
use Rattle.rx_tree_laws.proofs.Changes.{each_more}
use Rattle.rx_tree_laws.proofs.Chains.{met_below, met_start, skips, meets_skips}
use Rattle.rx_tree_laws.proofs.Stay.{faulted, meets_faulted}
use Rattle.rx_tree_laws.proofs.Reach.{task_below, fits_of}
use Rattle.rx_tree_laws.proofs.Releasing.{on_meets, none_below, each_all}
use Rattle.rx_tree_laws.proofs.Reached.{sound}
use Rattle.rx_tree_laws.proofs.Below.{find_kept}
use Rattle.rx_tree_laws.proofs.Waiting.{each_stands, found_own}
use Rattle.rx_tree_laws.proofs.Staying.{any_kept, find_unfiltered, busy, quiet_as, same_able, inner_same, faulted_own}

-- The walk as one recursion.

-- the opener of the first scope of the walk whose opener passes
abbrev first : (Option TaskId → Bool) → List Scope → Option ScopeId → Option TaskId
first q [] want = None
first q (g ∷ gs) want = cond (wants want g) (cond (q g.opener) g.opener (first q gs g.parent)) (first q gs want)

first_is : (q : Option TaskId → Bool) (gs : List Scope) (want : Option ScopeId) → opener_in (find (λ g. q g.opener) (chain_in gs want)) ≡ first q gs want
first_is q [] want = refl
first_is q (g ∷ gs) want =
    elim (wants want g) as (λ a. opener_in (find (λ g. q g.opener) (cond a (g ∷ chain_in gs g.parent) (chain_in gs want))) ≡ cond a (cond (q g.opener) g.opener (first q gs g.parent)) (first q gs want)) [
      | true ↦ elim (q g.opener) as (λ b. opener_in (cond b (Some g) (find (λ g. q g.opener) (chain_in gs g.parent))) ≡ cond b g.opener (first q gs g.parent)) [ true ↦ refl | false ↦ first_is q gs g.parent ]
      | false ↦ first_is q gs want
    ]

nearest_is : (T : Tree) (want : Option ScopeId) → nearest_opener T want ≡ first (is_left T) T.scopes want
nearest_is T want = first_is (is_left T) T.scopes want

first_skips : (q : Option TaskId → Bool) (g : Scope) (gs : List Scope) (u : ScopeId) → u.0 < g.number.0 → first q (g ∷ gs) (Some u) ≡ first q gs (Some u)
first_skips q g gs u h = rw (skips g u h)

-- faults change no walk
first_faulted : (b e : Scope → List Fault) (r : Scope → Bool) (q : Option TaskId → Bool) (gs : List Scope) (want : Option ScopeId) → first q (change_first r (faulted b e) gs) want ≡ first q gs want
first_faulted b e r q [] want = refl
first_faulted b e r q (g ∷ gs) want =
    elim (r g) as (λ c. first q (cond c (faulted b e g ∷ gs) (g ∷ change_first r (faulted b e) gs)) want ≡ first q (g ∷ gs) want) [
      | true ↦ wants_faulted want
      | false ↦ ap (λ v. cond (wants want g) (cond (q g.opener) g.opener v) (first q (change_first r (faulted b e) gs) want)) (first_faulted b e r q gs g.parent) ∙ ap (λ v. cond (wants want g) (cond (q g.opener) g.opener (first q gs g.parent)) v) (first_faulted b e r q gs want)
    ]
  where
    wants_faulted : (want : Option ScopeId) → first q (faulted b e g ∷ gs) want ≡ first q (g ∷ gs) want
    wants_faulted None = refl
    wants_faulted (Some s) = refl

-- Between a scope of n and the start of the walk.

opener_is : (n : TaskId) (o : Option TaskId) → (elim o as (λ _. Bool) [ Some x ↦ x.0 == n.0 | None ↦ false ]) ≡ true → o ≡ Some n
opener_is n None e = absurd (true≢false (sym e))
opener_is n (Some v) e = ap Some (task-is v n (eqb-true v.0 n.0 e))

-- who opened the scope of this number, where numbers fall
opened_here : (n : TaskId) (s : ScopeId) (g : Scope) (gs : List Scope) → Falls g.number.0 gs → is_scope s g ≡ true → list_any (λ k. is_scope s k && opened_by n k) (g ∷ gs) ≡ true → g.opener ≡ Some n
opened_here n s g gs f e a =
    let num : g.number.0 ≡ s.0 = eqb-true g.number.0 s.0 e in
    let none : list_any (λ k. is_scope s k && opened_by n k) gs ≡ false = none_below (opened_by n) s g.number.0 gs f (omega (arith, num)) in
    opener_is n g.opener (true_from_ne_false (opened_by n g) (λ w. true≢false (sym a ∙ off w none)))
  where
    off : opened_by n g ≡ false → list_any (λ k. is_scope s k && opened_by n k) gs ≡ false → (is_scope s g && opened_by n g || list_any (λ k. is_scope s k && opened_by n k) gs) ≡ false
    off w none = rw (e, w) none

same_opener : (k : ℕ) (gs : List Scope) (s : ScopeId) (n o : TaskId) → Falls k gs → list_any (λ k. is_scope s k && opened_by n k) gs ≡ true → list_any (λ k. is_scope s k && opened_by o k) gs ≡ true → o ≡ n
same_opener k [] s n o f a b = absurd (true≢false (sym a))
same_opener k (g ∷ gs) s n o f a b =
    (elim (is_scope s g) as (λ c. is_scope s g ≡ c → (c && opened_by n g || list_any (λ k. is_scope s k && opened_by n k) gs) ≡ true → (c && opened_by o g || list_any (λ k. is_scope s k && opened_by o k) gs) ≡ true → o ≡ n) [
      | true ↦ λ e a2 b2.
          let mine : g.opener ≡ Some n = opened_here n s g gs f.1 e a in
          let his : g.opener ≡ Some o = opened_here o s g gs f.1 e b in
          cc
      | false ↦ λ e a2 b2. same_opener g.number.0 gs s n o f.1 a2 b2
    ]) refl a b

-- an opener that passes and hangs under s
record Holder (ts : List Task) (q : Option TaskId → Bool) (s : ScopeId) (gs : List Scope) : Type 0 where
  pub opener : TaskId
  pub task : Task
  pub passes : q (Some opener) ≡ true
  pub stands : find (is_task opener) ts ≡ Some task
  pub under : meets s gs (Some task.under) ≡ true

lift : (ts : List Task) (q : Option TaskId → Bool) (s : ScopeId) (g : Scope) (gs : List Scope) → Falls g.number.0 gs → Holder ts q s gs → Holder ts q s (g ∷ gs)
lift ts q s g gs f h =
    record {
      opener = h.opener;
      task = h.task;
      passes = h.passes;
      stands = h.stands;
      under = meets_skips s g gs h.task.under (met_start s g.number.0 gs h.task.under f h.under) ∙ h.under;
    }

-- the opener of a scope that stands below s
above : (ts : List Task) (q : Option TaskId → Bool) (g : Scope) (gs : List Scope) (s : ScopeId) (n : TaskId) (o : Option TaskId) → Falls g.number.0 gs → HasOpener ts g gs o → meets s gs g.parent ≡ true → list_any (λ k. is_scope s k && opened_by n k) gs ≡ true → cond (q o) o (first q gs g.parent) ≢ Some n → (first q gs g.parent ≢ Some n → Holder ts q s gs) → Holder ts q s (g ∷ gs)
above ts q g gs s n None f h m rest apart more = absurd (true≢false (sym m ∙ ap (λ v. meets s v g.parent) h.0))
above ts q g gs s n (Some o) f h m rest apart more =
    (elim (q (Some o)) as (λ b. q (Some o) ≡ b → cond b (Some o) (first q gs g.parent) ≢ Some n → Holder ts q s (g ∷ gs)) [
      | true ↦ λ u apart2.
          let none : list_any (λ k. is_scope s k && opened_by o k) gs ≡ false = false_from_ne_true (list_any (λ k. is_scope s k && opened_by o k) gs) (λ a. apart2 (ap Some (same_opener g.number.0 gs s n o f rest a))) in
          record { opener = o; task = h.task; passes = u; stands = h.stands; under = meets_skips s g gs h.task.under h.older ∙ h.above s m none }
      | false ↦ λ u apart2. lift ts q s g gs f (more apart2)
    ]) refl apart

-- where the walk meets a scope of n, who passes, and the first that passes is another, that one hangs under the scope
holder : (ts : List Task) (q : Option TaskId → Bool) (k : ℕ) (gs : List Scope) (want : Option ScopeId) (s : ScopeId) (n : TaskId) → Falls k gs → Opened ts gs → q (Some n) ≡ true → meets s gs want ≡ true → list_any (λ k. is_scope s k && opened_by n k) gs ≡ true → first q gs want ≢ Some n → Holder ts q s gs
holder ts q k [] want s n f h left m mine apart = absurd (true≢false (sym m))
holder ts q k (g ∷ gs) want s n f h left m mine apart =
    (elim (wants want g) as (λ a. cond a (is_scope s g || meets s gs g.parent) (meets s gs want) ≡ true → cond a (cond (q g.opener) g.opener (first q gs g.parent)) (first q gs want) ≢ Some n → Holder ts q s (g ∷ gs)) [
      | true ↦ λ m2 apart2.
          (elim (is_scope s g) as (λ b. is_scope s g ≡ b → b || meets s gs g.parent ≡ true → Holder ts q s (g ∷ gs)) [
            | true ↦ λ e m3. absurd (apart2 (ap (λ o. cond (q o) o (first q gs g.parent)) (opened_here n s g gs f.1 e mine) ∙ ap (λ b. cond b (Some n) (first q gs g.parent)) left))
            | false ↦ λ e m3. above ts q g gs s n g.opener f.1 h.0 m3 (later e) apart2 (λ apart3. holder ts q g.number.0 gs g.parent s n f.1 h.1 left m3 (later e) apart3)
          ]) refl m2
      | false ↦ λ m2 apart2.
          let low : s.0 < g.number.0 = met_below s g.number.0 gs want f.1 m2 in
          lift ts q s g gs f.1 (holder ts q g.number.0 gs want s n f.1 h.1 left m2 (later (ne_eqb g.number.0 s.0 (λ e. absurd (omega (arith, e, low))))) apart2)
    ]) m apart
  where
    later : is_scope s g ≡ false → list_any (λ k. is_scope s k && opened_by n k) gs ≡ true
    later e = sym (ap (λ c. c && opened_by n g || list_any (λ k. is_scope s k && opened_by n k) gs) e) ∙ mine

-- The end.

-- the tree after the end of a task that hangs under u
abbrev ended : Tree → TaskId → List Fault → ScopeId → Tree
ended T t thrown u = change_scope (λ g. record g { ends = g.ends ++ thrown }) u (record T { tasks = filter (λ z. not (is_task t z)) T.tasks })

end_is : (T : Tree) (t : TaskId) (thrown : List Fault) (x : Task) → task_of T t ≡ Some x → made_act T t (End thrown) ≡ ended T t thrown x.under
end_is T t thrown x e = rw (e, after_end) refl

any_at : (r p : Task → Bool) (xs : List Task) (x : Task) → find r xs ≡ Some x → p x ≡ true → list_any p xs ≡ true
any_at r p [] x e k = cc
any_at r p (y ∷ ys) x e k =
    (elim (r y) as (λ b. cond b (Some y) (find r ys) ≡ Some x → (p y || list_any p ys) ≡ true) [
      | true ↦ λ w. let same : y ≡ x = cc in let it : p y ≡ true = ap p same ∙ k in rw it refl
      | false ↦ λ w. let rest : list_any p ys ≡ true = any_at r p ys x w k in rw rest (or-true (p y))
    ]) e

-- who is left after the end was there before
left_before : (T : Tree) (t : TaskId) (thrown : List Fault) (u : ScopeId) (o : TaskId) → Sound T → is_left (ended T t thrown u) (Some o) ≡ true → (z : Task) × (task_of (ended T t thrown u) o ≡ Some z) × (task_of T o ≡ Some z) × (is_none z.struck ≡ true)
left_before T t thrown u o h e =
    (elim (task_of (ended T t thrown u) o) as (λ v. task_of (ended T t thrown u) o ≡ v → unstruck_in v ≡ true → (z : Task) × (task_of (ended T t thrown u) o ≡ Some z) × (task_of T o ≡ Some z) × (is_none z.struck ≡ true)) [
      | None ↦ λ w a. absurd (true≢false (sym a))
      | Some z ↦ λ w a. (z, w, find_unfiltered (λ y. not (is_task t y)) o T.next_task T.tasks z h.tasks_fall w, a)
    ]) refl e

-- an own scope of another unstruck task is quiet, or not, as it was, unless that task is the nearest opener
module _ (T : Tree) (t : TaskId) (thrown : List Fault) (x : Task) (h : Sound T) (found : task_of T t ≡ Some x) where
  abbrev E : Tree
  E = ended T t thrown x.under

  faults : (s : ScopeId) (want : Option ScopeId) → meets s E.scopes want ≡ meets s T.scopes want
  faults s want = meets_faulted (λ k. k.body) (λ k. k.ends ++ thrown) (is_scope x.under) s T.scopes want

  mine : (b : Bool) → not b ≡ false → b ≡ true
  mine true e = refl
  mine false e = absurd (true≢false e)

  it : (v : Task) → find (is_task v.number) T.tasks ≡ Some v → not (is_task t v) ≡ false → x ≡ v
  it v stands e =
      let same : v.number ≡ t = task-is v.number t (eqb-true v.number.0 t.0 (mine (is_task t v) e)) in
      let found2 : find (is_task t) T.tasks ≡ Some v = subst (λ (w : TaskId). find (is_task w) T.tasks ≡ Some v) same stands in
      cc

  both : (a b : Bool) → a ≡ true → b ≡ true → (a && b) ≡ true
  both a b e k = rw (e, k) refl

  -- where the task that ends does not hang under the scope
  busy_apart : (s : ScopeId) → meets s T.scopes (Some x.under) ≡ false → busy E.scopes E.tasks s ≡ busy T.scopes T.tasks s
  busy_apart s m =
      any_kept (λ v. meets s E.scopes (Some v.under) && is_none v.struck) (λ v. meets s T.scopes (Some v.under) && is_none v.struck) (λ v. not (is_task t v)) T.tasks
      (each_more (λ v. find (is_task v.number) T.tasks ≡ Some v) (λ v. (not (is_task t v) ≡ true → (meets s E.scopes (Some v.under) && is_none v.struck) ≡ (meets s T.scopes (Some v.under) && is_none v.struck)) × (not (is_task t v) ≡ false → (meets s T.scopes (Some v.under) && is_none v.struck) ≡ false))
      (λ (v : Task) stands. (
        λ e. ap (λ b. b && is_none v.struck) (faults s (Some v.under)),
        λ e. and_left (meets s T.scopes (Some v.under)) (is_none v.struck) (subst (λ (w : Task). meets s T.scopes (Some w.under) ≡ false) (it v stands e) m),
      ))
      T.tasks (each_stands T.next_task T.tasks h.tasks_fall))

  -- where it does, and an opener that is left hangs there too
  busy_still : (s : ScopeId) → Holder T.tasks (is_left E) s T.scopes → busy E.scopes E.tasks s ≡ busy T.scopes T.tasks s
  busy_still s k =
      let z = left_before T t thrown x.under k.opener h k.passes in
      let before : task_of T k.opener ≡ Some z.0 = z.2 in
      let stands : task_of T k.opener ≡ Some k.task = k.stands in
      let same : k.task ≡ z.0 = cc in
      let under : meets s T.scopes (Some z.0.under) ≡ true = subst (λ (v : Task). meets s T.scopes (Some v.under) ≡ true) same k.under in
      any_at (is_task k.opener) (λ v. meets s E.scopes (Some v.under) && is_none v.struck) E.tasks z.0 z.1 (both (meets s E.scopes (Some z.0.under)) (is_none z.0.struck) (faults s (Some z.0.under) ∙ under) z.3)
      ∙ sym (any_at (is_task k.opener) (λ v. meets s T.scopes (Some v.under) && is_none v.struck) T.tasks z.0 before (both (meets s T.scopes (Some z.0.under)) (is_none z.0.struck) under z.3))

  busy_stays : (n : TaskId) (y : Task) (g : Scope) → task_of E n ≡ Some y → is_none y.struck ≡ true → own_scope T n ≡ Some g → nearest_opener E (Some x.under) ≢ Some n → busy E.scopes E.tasks g.number ≡ busy T.scopes T.tasks g.number
  busy_stays n y g at free own apart =
      (elim (meets g.number T.scopes (Some x.under)) as (λ b. meets g.number T.scopes (Some x.under) ≡ b → busy E.scopes E.tasks g.number ≡ busy T.scopes T.tasks g.number) [
        | true ↦ λ m.
            let walk : first (is_left E) T.scopes (Some x.under) ≢ Some n = λ e. apart (nearest_is E (Some x.under) ∙ (first_faulted (λ k. k.body) (λ k. k.ends ++ thrown) (is_scope x.under) (is_left E) T.scopes (Some x.under) ∙ e)) in
            let passes : is_left E (Some n) ≡ true = ap unstruck_in at ∙ free in
            busy_still g.number (holder T.tasks (is_left E) T.next_scope T.scopes (Some x.under) g.number n h.falls h.opened passes m (found_own n T.scopes g own) walk)
        | false ↦ λ m. busy_apart g.number m
      ]) refl

frees : (T : Tree) (t : TaskId) (thrown : List Fault) (x : Task) (n : TaskId) → Reached T → task_of T t ≡ Some x → n.0 ≢ t.0 → nearest_opener (ended T t thrown x.under) (Some x.under) ≢ Some n → able (ended T t thrown x.under) n ≡ able T n
frees T t thrown x n r found apart other =
    let E : Tree = ended T t thrown x.under in
    let stays : task_of E n ≡ task_of T n = find_kept (is_task n) (λ y. not (is_task t y)) T.tasks (each_all (λ y. is_task n y ≡ true → not (is_task t y) ≡ true) (λ (y : Task) e. ap not (ne_eqb y.number.0 t.0 (λ k. apart (sym (eqb-true y.number.0 n.0 e) ∙ k)))) T.tasks) in
    same_able T E n r stays (λ y g at free own. (
      inner_same T E n y g at own (faulted_own (λ k. k.body) (λ k. k.ends ++ thrown) (is_scope x.under) (opened_by n) (λ k. refl) T.scopes),
      quiet_as T E g.number (busy_stays T t thrown x (sound r) found n y g (stays ∙ at) (ap is_none free) own other),
    ))

pub frees_one : FreesOne
frees_one T t thrown x n r may found apart =
    subst (λ (v : Tree). nearest_opener v (Some x.under) ≢ Some n → able v n ≡ able T n) (sym (end_is T t thrown x found)) (frees T t thrown x n r found apart)

pub way_stays : WayStays
way_stays T t thrown x r may found =
    let E : Tree = ended T t thrown x.under in
    subst (λ (v : Tree). on_chain v the_root x.under ≡ true) (sym (end_is T t thrown x found))
    (on_meets the_root E.scopes (Some x.under)
    ∙ (meets_faulted (λ k. k.body) (λ k. k.ends ++ thrown) (is_scope x.under) the_root T.scopes (Some x.under)
    ∙ (fits_of T t x (sound r) found).rooted))

-- The walk from a scope that leads to the root.

record Up (ts : List Task) (q : Option TaskId → Bool) (gs : List Scope) (s : ScopeId) : Type 0 where
  pub scope : Scope
  pub opener : TaskId
  pub parent : ScopeId
  pub stands : find (is_scope s) gs ≡ Some scope
  pub is_opener : scope.opener ≡ Some opener
  pub is_parent : scope.parent ≡ Some parent
  pub task : Task
  pub opens : find (is_task opener) ts ≡ Some task
  pub older : parent.0 < s.0
  pub leads : meets the_root gs (Some parent) ≡ true
  pub nearest : first q gs (Some s) ≡ cond (q (Some opener)) (Some opener) (first q gs (Some parent))

pub meets_none : (s : ScopeId) (gs : List Scope) → meets s gs None ≡ false
meets_none s [] = refl
meets_none s (g ∷ gs) = meets_none s gs

up_here : (ts : List Task) (q : Option TaskId → Bool) (g : Scope) (gs : List Scope) (s : ScopeId) (o : Option TaskId) (w : Option ScopeId) → g.opener ≡ o → g.parent ≡ w → Falls g.number.0 gs → HasOpener ts g gs o → g.number ≡ s → meets the_root gs w ≡ true → Up ts q (g ∷ gs) s
up_here ts q g gs s None w eo ew f h num m = absurd (true≢false (sym m ∙ ap (λ v. meets the_root v w) h.0))
up_here ts q g gs s (Some o) None eo ew f h num m = absurd (true≢false (sym m ∙ meets_none the_root gs))
up_here ts q g gs s (Some o) (Some p) eo ew f h num m =
    let low : p.0 < g.number.0 = met_start the_root g.number.0 gs p f m in
    let it : is_scope s g ≡ true = eq-eqb g.number.0 s.0 (ap (λ (v : ScopeId). v.0) num) in
    record {
      scope = g;
      opener = o;
      parent = p;
      stands = rw it refl;
      is_opener = eo;
      is_parent = ew;
      task = h.task;
      opens = h.stands;
      older = subst (λ (v : ScopeId). p.0 < v.0) num low;
      leads = meets_skips the_root g gs p low ∙ m;
      nearest =
          ap (λ a. cond a (cond (q g.opener) g.opener (first q gs g.parent)) (first q gs (Some s))) it
          ∙ (ap (λ v. cond (q v) v (first q gs g.parent)) eo
          ∙ (ap (λ v. cond (q (Some o)) (Some o) (first q gs v)) ew
          ∙ ap (cond (q (Some o)) (Some o)) (sym (first_skips q g gs p low))));
    }

up : (ts : List Task) (q : Option TaskId → Bool) (k : ℕ) (gs : List Scope) (s : ScopeId) → Falls k gs → Opened ts gs → meets the_root gs (Some s) ≡ true → s.0 ≢ 0 → Up ts q gs s
up ts q k [] s f h m off = absurd (true≢false (sym m))
up ts q k (g ∷ gs) s f h m off =
    (elim (is_scope s g) as (λ a. is_scope s g ≡ a → cond a (is_scope the_root g || meets the_root gs g.parent) (meets the_root gs (Some s)) ≡ true → Up ts q (g ∷ gs) s) [
      | true ↦ λ e m2.
          let num : g.number.0 ≡ s.0 = eqb-true g.number.0 s.0 e in
          let same : g.number ≡ s = ap (λ (n : ℕ). let v : ScopeId = record { 0 = n } in v) num in
          let apart : is_scope the_root g ≡ false = ne_eqb g.number.0 0 (λ w. off (sym num ∙ w)) in
          up_here ts q g gs s g.opener g.parent refl refl f.1 h.0 same (sym (ap (λ b. b || meets the_root gs g.parent) apart) ∙ m2)
      | false ↦ λ e m2.
          let r : Up ts q gs s = up ts q g.number.0 gs s f.1 h.1 m2 off in
          let low : s.0 < g.number.0 = met_start the_root g.number.0 gs s f.1 m2 in
          let older : r.parent.0 < s.0 = r.older in
          let lower : r.parent.0 < g.number.0 = omega (arith, low, older) in
          record {
            scope = r.scope;
            opener = r.opener;
            parent = r.parent;
            stands = rw e r.stands;
            is_opener = r.is_opener;
            is_parent = r.is_parent;
            task = r.task;
            opens = r.opens;
            older = older;
            leads = meets_skips the_root g gs r.parent lower ∙ r.leads;
            nearest = first_skips q g gs s low ∙ (r.nearest ∙ ap (cond (q (Some r.opener)) (Some r.opener)) (sym (first_skips q g gs r.parent lower)));
          }
    ]) refl m

pub walk_goes_up : WalkGoesUp
walk_goes_up T s r leads off =
    let h : Sound T = sound r in
    let u : Up T.tasks (is_left T) T.scopes s = up T.tasks (is_left T) T.next_scope T.scopes s h.falls h.opened (sym (on_meets the_root T.scopes (Some s)) ∙ leads) off in
    record {
      scope = u.scope;
      opener = u.opener;
      parent = u.parent;
      stands = u.stands;
      is_opener = u.is_opener;
      is_parent = u.is_parent;
      is_task = task_below T.next_task T.tasks u.opener u.task h.tasks_fall u.opens;
      older = u.older;
      leads = on_meets the_root T.scopes (Some u.parent) ∙ u.leads;
      nearest = nearest_is T (Some s) ∙ (u.nearest ∙ ap (cond (is_left T (Some u.opener)) (Some u.opener)) (sym (nearest_is T (Some u.parent))));
    }

ends_at : (ts : List Task) (q : Option TaskId → Bool) (k : ℕ) (gs : List Scope) → Falls k gs → Opened ts gs → first q gs (Some the_root) ≡ None
ends_at ts q k [] f h = refl
ends_at ts q k (g ∷ gs) f h =
    (elim (is_scope the_root g) as (λ a. is_scope the_root g ≡ a → cond a (cond (q g.opener) g.opener (first q gs g.parent)) (first q gs (Some the_root)) ≡ None) [
      | true ↦ λ e. at_root g.opener h.0 (eqb-true g.number.0 0 e)
      | false ↦ λ e. ends_at ts q g.number.0 gs f.1 h.1
    ]) refl
  where
    at_root : (o : Option TaskId) → HasOpener ts g gs o → g.number.0 ≡ 0 → cond (q o) o (first q gs g.parent) ≡ None
    at_root None ho e = (elim (q None) as (λ b. cond b None (first q gs g.parent) ≡ None) [ true ↦ refl | false ↦ ap (λ v. first q v g.parent) ho.0 ])
    at_root (Some o) ho e = let low : 0 < g.number.0 = met_below the_root g.number.0 gs g.parent f.1 ho.rooted in absurd (omega (arith, low, e))

pub walk_ends : WalkEnds
walk_ends T r =
    let h : Sound T = sound r in
    nearest_is T (Some the_root) ∙ ends_at T.tasks (is_left T) T.next_scope T.scopes h.falls h.opened
