-- The scopes of a task are those that its own entries tell.
use Rattle.std.proofs.Common.{◌≡◌, ℕ, suc, ◌+◌, ◌<◌, ◌≤◌, ◌==◌, Bool, true, false, cond, not, filter, map, drop, length, List, [], ◌∷◌, ◌++◌, Option, Some, None, option_map, All, refl, ap, ◌∙◌, sym, subst, arith, inl, inr}
use Rattle.std.specs.List.{find}
use Rattle.std.proofs.lemmas.Bool.{eqb-true, eqb-false, eq-eqb, ne_eqb, true≢false, not-true}
use Rattle.std.proofs.lemmas.Bool.Decides.{leb_tells}
use Rattle.rx_rules.proofs.Common.{TaskId, ScopeId, Tree, task_of, is_task, is_scope, opened_by, Allowed, AllowedAct, made, made_act, change_scope, hit, AllAllowed, fold_from, opening, tree_of, Reached, IsOlder, opens, Given, Folds}
use Rattle.rx_base.proofs.Elements.{find-passes}
use Rattle.rx_base.proofs.SameIds.{task-is}
use Rattle.rx_rules.specs.declared.entries.Act.{Act}
use Rattle.rx_rules.specs.declared.entries.Act.TheVariants.{Open, At as Calls, Spawn, Arrive, Wait, Release, End, Print, Census}
use Rattle.rx_rules.specs.declared.entries.Entry.{Entry}
use Rattle.rx_rules.specs.declared.entries.Entry.TheVariants.{Step, Root, Death, Join}
use Rattle.rx_rules.specs.declared.tasks.Kind.{Kind}
use Rattle.rx_rules.specs.declared.tasks.Kind.TheVariants.{Finish}
use Rattle.rx_rules.specs.declared.tasks.Blow.{Blow}
use Rattle.rx_rules.specs.declared.tasks.Task.{Task}
use Rattle.rx_rules.specs.declared.tasks.Scope.{Scope}
use Rattle.rx_tree_laws.proofs.Reach.{task_below}
use Rattle.rx_tree_laws.proofs.Reached.{sound}
use Rattle.rx_tree_laws.proofs.Histories.{reached_now, dead-now, none_yet}
use Rattle.rx_tree_laws.proofs.Owning.{release_pops}
use Rattle.rx_ledger.specs.Owned.{Owned, sort_of, own_after, own_from, own_told, owned, OwnedAsTold, MayWaitNext, MayEndNext, NumbersAreLeft}
use Rattle.rx_runs.proofs.Endings.{root_empties}
use Rattle.rx_chronicle.proofs.Linking.{find-hit, Link, link, links, links_faulted, none_opened}
use Rattle.rx_ledger.proofs.Others.{none_act, passes_filter, ended, entry_lasts}

-- Links tell numbers and kinds.

abbrev pub kinds : List Link → Owned
kinds ls = map (λ (l : Link). (l.0, l.2)) ls

kinds_link : (gs : List Scope) → kinds (map link gs) ≡ map sort_of gs
kinds_link [] = refl
kinds_link (g ∷ gs) = ap (λ (o : Owned). sort_of g ∷ o) (kinds_link gs)

linked_owned : (T V : Tree) (t : TaskId) → links V t ≡ links T t → owned V t ≡ owned T t
linked_owned T V t e = sym (kinds_link (filter (opened_by t) V.scopes)) ∙ (ap kinds e ∙ kinds_link (filter (opened_by t) T.scopes))

-- The act of a task itself.

own_act : (T : Tree) (t : TaskId) (act : Act) (y : Task) → Reached T → AllowedAct T t act → task_of (made_act T t act) t ≡ Some y → owned (made_act T t act) t ≡ own_after act (owned T t)
own_act T t (Open s r path) y reached may found = rw (eq-eqb t.0 t.0 refl) refl
own_act T t (Calls from to s r child path) y reached may found = rw (eq-eqb t.0 t.0 refl) refl
own_act T t (Spawn child s from to path) y reached may found = refl
own_act T t (Arrive p) y reached may found = refl
own_act T t (Wait s thrown) y reached may found =
    linked_owned T (made_act T t (Wait s thrown)) t (links_faulted (opened_by t) (is_scope s) (λ g. record g { body = thrown }) T.scopes (λ g. refl) (λ g. refl))
own_act T t (Release s lost masked thrown) y reached may found =
    let pops = release_pops T t s lost masked thrown reached may in
    sym (ap (λ (gs : List Scope). drop 1 (map sort_of gs)) pops.2)
own_act T t (End thrown) y reached may found =
    let there : find (is_task t) (filter (λ z. not (is_task t z)) T.tasks) ≡ Some y = subst (λ (V : Tree). task_of V t ≡ Some y) (ended T t thrown may.task may.stands) found in
    let off = not-true (is_task t y) (passes_filter (is_task t) (λ z. not (is_task t z)) T.tasks y there) in
    absurd (true≢false (sym (find-passes (is_task t) (filter (λ z. not (is_task t z)) T.tasks) y there) ∙ off))
own_act T t (Print value path) y reached may found = refl
own_act T t (Census places path) y reached may found = refl

-- A task that is not yet born has none.

none_twice : (p q : Scope → Bool) (gs : List Scope) → filter p gs ≡ [] → filter p (filter q gs) ≡ []
none_twice p q [] e = refl
none_twice p q (g ∷ gs) e =
    (elim (p g) as (λ b. p g ≡ b → cond b (g ∷ filter p gs) (filter p gs) ≡ [] → filter p (filter q (g ∷ gs)) ≡ []) [
      | true ↦ λ w k. absurd (let v : ⊥ = cc in v)
      | false ↦ λ w k. elim (q g) as (λ c. filter p (cond c (g ∷ filter q gs) (filter q gs)) ≡ []) [
        | true ↦ ap (λ (b : Bool). cond b (g ∷ filter p (filter q gs)) (filter p (filter q gs))) w ∙ none_twice p q gs k
        | false ↦ none_twice p q gs k
      ]
    ]) refl e

unlinked : (gs : List Scope) → map link gs ≡ [] → gs ≡ []
unlinked [] e = refl
unlinked (g ∷ gs) e = absurd (let v : ⊥ = cc in v)

none_owned : (T : Tree) (u t : TaskId) (act : Act) → AllowedAct T u act → (u.0 == t.0) ≡ false → filter (opened_by t) T.scopes ≡ [] → filter (opened_by t) (made_act T u act).scopes ≡ []
none_owned T u t (Open s r path) may skip e = rw skip e
none_owned T u t (Calls from to s r child path) may skip e = rw skip e
none_owned T u t (Spawn child s from to path) may skip e = e
none_owned T u t (Arrive p) may skip e = e
none_owned T u t (Wait s thrown) may skip e =
    unlinked (filter (opened_by t) (made_act T u (Wait s thrown)).scopes)
    (links_faulted (opened_by t) (is_scope s) (λ g. record g { body = thrown }) T.scopes (λ g. refl) (λ g. refl) ∙ ap (map link) e)
none_owned T u t (Release s lost masked thrown) may skip e = none_twice (opened_by t) _ T.scopes e
none_owned T u t (End thrown) may skip e =
    subst (λ (V : Tree). filter (opened_by t) V.scopes ≡ []) (sym (ended T u thrown may.task may.stands))
    (unlinked _ (links_faulted (opened_by t) (is_scope may.task.under) (λ g. record g { ends = g.ends ++ thrown }) T.scopes (λ g. refl) (λ g. refl) ∙ ap (map link) e))
none_owned T u t (Print value path) may skip e = e
none_owned T u t (Census places path) may skip e = e

-- Numbers.

next_more : (n : ℕ) (T : Tree) (e : Entry) → (T.next_task ≤ (made n T e).next_task) × ((made n T e).next_task ≤ T.next_task + 1) × ((made n T e).next_scope ≤ T.next_scope + 1)
next_more n T (Step t (Open s r path) batch) = (omega arith, omega arith, omega arith)
next_more n T (Step t (Calls from to s r child path) batch) = (omega arith, omega arith, omega arith)
next_more n T (Step t (Spawn child s from to path) batch) = (omega arith, omega arith, omega arith)
next_more n T (Step t (Arrive p) batch) = (omega arith, omega arith, omega arith)
next_more n T (Step t (Wait s thrown) batch) = (omega arith, omega arith, omega arith)
next_more n T (Step t (Release s lost masked thrown) batch) = (omega arith, omega arith, omega arith)
next_more n T (Step t (End thrown) batch) = of_found (task_of T t) where
  of_found : (o : Option Task) → (let V : Tree = elim o as (λ _. Tree) [ Some x ↦ change_scope (λ g. record g { ends = g.ends ++ thrown }) x.under (record T { tasks = filter (λ y. not (is_task t y)) T.tasks }) | None ↦ T ] in (T.next_task ≤ V.next_task) × (V.next_task ≤ T.next_task + 1) × (V.next_scope ≤ T.next_scope + 1))
  of_found (Some x) = (omega arith, omega arith, omega arith)
  of_found None = (omega arith, omega arith, omega arith)
next_more n T (Step t (Print value path) batch) = (omega arith, omega arith, omega arith)
next_more n T (Step t (Census places path) batch) = (omega arith, omega arith, omega arith)
next_more n T (Root lost masked thrown) = (omega arith, omega arith, omega arith)
next_more n T (Death d) = (omega arith, omega arith, omega arith)
next_more n T (Join d) = (omega arith, omega arith, omega arith)

numbers_from : (n : ℕ) (T : Tree) (es : List Entry) → ((fold_from n T es).next_task ≤ T.next_task + length es) × ((fold_from n T es).next_scope ≤ T.next_scope + length es)
numbers_from n T [] = (omega arith, omega arith)
numbers_from n T (e ∷ es) =
    let one = next_more n T e in
    let rest = numbers_from (suc n) (made n T e) es in
    let a : (made n T e).next_task ≤ T.next_task + 1 = one.1 in
    let b : (made n T e).next_scope ≤ T.next_scope + 1 = one.2 in
    let c : (fold_from (suc n) (made n T e) es).next_task ≤ (made n T e).next_task + length es = rest.0 in
    let d : (fold_from (suc n) (made n T e) es).next_scope ≤ (made n T e).next_scope + length es = rest.1 in
    (omega (arith, a, c), omega (arith, b, d))

pub numbers_are_left : NumbersAreLeft
numbers_are_left places es few =
    let h = numbers_from 0 (opening places) es in
    let a : (tree_of places es).next_task ≤ 1 + length es = h.0 in
    let b : (tree_of places es).next_scope ≤ 1 + length es = h.1 in
    record { tasks = omega (arith, a, few); scopes = omega (arith, b, few) }

-- Along a history.

-- what was told of each task so far
pub record ToldOwn (T : Tree) (own : TaskId → Owned) : Type 0 where
  pub each : (t : TaskId) (x : Task) → task_of T t ≡ Some x → owned T t ≡ own t
  pub unborn : (t : TaskId) → T.next_task ≤ t.0 → own t ≡ []

module _ (n : ℕ) (T : Tree) (r : Reached T) (own : TaskId → Owned) (h : ToldOwn T own) where
  -- another task
  act_other : (u t : TaskId) (act : Act) (batch : List (List ℕ)) (y : Task) → AllowedAct T u act → (u.0 == t.0) ≡ false → task_of (made_act T u act) t ≡ Some y → owned (made_act T u act) t ≡ own t
  act_other u t act batch y may skip found =
      (elim (task_of T t) as (λ o. task_of T t ≡ o → owned (made_act T u act) t ≡ own t) [
        | Some x ↦ λ w.
            elim (entry_lasts n T (Step u act batch) t x r may (λ e. eqb-false u.0 t.0 skip (sym e)) w) [
              | inl s ↦ linked_owned T (made_act T u act) t s.owns ∙ h.each t x w
              | inr l ↦ absurd (let both : Some y ≡ None = sym found ∙ l.none in let v : ⊥ = cc in v)
            ]
        | None ↦ λ w. unknown w
      ]) refl
    where
      unknown : task_of T t ≡ None → owned (made_act T u act) t ≡ own t
      unknown w =
          elim (leb_tells T.next_task t.0) [
            | inl k ↦
                ap (map sort_of)
                (none_owned T u t act may skip (none_opened T.tasks T.next_task T.scopes t (sound r).tasks_fall (sound r).opened k.1))
                ∙ sym (h.unborn t k.1)
            | inr k ↦ absurd (let both : Some y ≡ None = sym found ∙ none_act T u t act may (record { low = k.1; none = w }) in let v : ⊥ = cc in v)
          ]

  entry_each : (e : Entry) (t : TaskId) (y : Task) → Allowed T e → task_of (made n T e) t ≡ Some y → owned (made n T e) t ≡ own_from t (own t) (e ∷ [])
  entry_each (Step u act batch) t y may found =
      (elim (u.0 == t.0) as (λ b. u.0 == t.0 ≡ b → owned (made_act T u act) t ≡ cond b (own_after act (own t)) (own t)) [
        | true ↦ λ w.
            let it : u ≡ t = task-is u t (eqb-true u.0 t.0 w) in
            let mine : AllowedAct T t act = subst (λ (v : TaskId). AllowedAct T v act) it may in
            let now : task_of (made_act T t act) t ≡ Some y = subst (λ (v : TaskId). task_of (made_act T v act) t ≡ Some y) it found in
            subst (λ (v : TaskId). owned (made_act T v act) t ≡ own_after act (own t)) (sym it)
            (own_act T t act y r mine now ∙ ap (own_after act) (h.each t mine.task mine.stands))
        | false ↦ λ w. act_other u t act batch y may w found
      ]) refl
  entry_each (Root lost masked thrown) t y may found =
      let none : (made n T (Root lost masked thrown)).tasks ≡ [] = root_empties T (sound r) may.2.is_quiet in
      absurd (let gone : None ≡ Some y = sym (ap (λ (xs : List Task). find (is_task t) xs) none) ∙ found in let v : ⊥ = cc in v)
  entry_each (Join p) t y may found = h.each t y found
  entry_each (Death d) t y may found =
      let b : Blow = record { place = d; entry = n } in
      (elim (task_of T t) as (λ o. task_of T t ≡ o → owned T t ≡ own t) [
        | Some x ↦ λ w. h.each t x w
        | None ↦ λ w. absurd (let gone : None ≡ Some y = sym (find-hit b t T.tasks ∙ ap (option_map (hit b)) w) ∙ found in let v : ⊥ = cc in v)
      ]) refl

  entry_unborn : (e : Entry) (t : TaskId) → Allowed T e → (made n T e).next_task ≤ t.0 → own_from t (own t) (e ∷ []) ≡ []
  entry_unborn (Step u act batch) t may high =
      let grows : T.next_task ≤ (made_act T u act).next_task = (next_more n T (Step u act batch)).0 in
      let none : own t ≡ [] = h.unborn t (omega (arith, grows, high)) in
      let low : u.0 < T.next_task = task_below T.next_task T.tasks u may.task (sound r).tasks_fall may.stands in
      let other : (u.0 == t.0) ≡ false = ne_eqb u.0 t.0 (λ e. absurd (omega (arith, grows, high, low, e))) in
      ap (λ (b : Bool). cond b (own_after act (own t)) (own t)) other ∙ none
  entry_unborn _ t may high = h.unborn t high

  told_entry : (e : Entry) → Allowed T e → ToldOwn (made n T e) (λ t. own_from t (own t) (e ∷ []))
  told_entry e may = record { each = λ t y found. entry_each e t y may found; unborn = λ t high. entry_unborn e t may high }

own_split : (t : TaskId) (own : Owned) (e : Entry) (es : List Entry) → own_from t (own_from t own (e ∷ [])) es ≡ own_from t own (e ∷ es)
own_split t own (Step u act batch) es = refl
own_split t own _ es = refl

told_from : (n : ℕ) (T : Tree) (es : List Entry) (own : TaskId → Owned) (t : TaskId) (x : Task) → Reached T → All (IsOlder n) T.dead → AllAllowed n T es → ToldOwn T own → task_of (fold_from n T es) t ≡ Some x → owned (fold_from n T es) t ≡ own_from t (own t) es
told_from n T [] own t x r o may h found = h.each t x found
told_from n T (e ∷ es) own t x r o may h found =
    told_from (suc n) (made n T e) es (λ v. own_from v (own v) (e ∷ [])) t x (reached_now n T e r o may.0) (dead-now n T e o) may.1 (told_entry n T r own h e may.0) found
    ∙ own_split t (own t) e es

opening_owns : (places : ℕ) → ToldOwn (opening places) (λ t. [])
opening_owns places = record { each = λ t x found. refl; unborn = λ t high. refl }

pub owned_as_told : OwnedAsTold
owned_as_told U es t x folds found =
    told_from 0 (opening U.places) es (λ v. []) t x (opens U.places folds.some folds.few) none_yet folds.allowed (opening_owns U.places) found

unborn_from : (n : ℕ) (T : Tree) (es : List Entry) (own : TaskId → Owned) (t : TaskId) → Reached T → All (IsOlder n) T.dead → AllAllowed n T es → ToldOwn T own → (fold_from n T es).next_task ≤ t.0 → own_from t (own t) es ≡ []
unborn_from n T [] own t r o may h high = h.unborn t high
unborn_from n T (e ∷ es) own t r o may h high =
    sym (own_split t (own t) e es)
    ∙ unborn_from (suc n) (made n T e) es (λ v. own_from v (own v) (e ∷ [])) t (reached_now n T e r o may.0) (dead-now n T e o) may.1 (told_entry n T r own h e may.0) high

-- a task that was not started has none
pub unborn_owns : (U : Given) (es : List Entry) (t : TaskId) → Folds U es → (tree_of U.places es).next_task ≤ t.0 → own_told es t ≡ []
unborn_owns U es t folds high =
    unborn_from 0 (opening U.places) es (λ v. []) t (opens U.places folds.some folds.few) none_yet folds.allowed (opening_owns U.places) high

-- What a caller may ask for next.

-- the newest scope of a task
first_owned : (p : Scope → Bool) (gs : List Scope) (s : ScopeId) (k : Kind) (rest : Owned) → map sort_of (filter p gs) ≡ (s, k) ∷ rest → (g : Scope) × (find p gs ≡ Some g) × (g.kind ≡ k)
first_owned p [] s k rest e = absurd (let v : ⊥ = cc in v)
first_owned p (g ∷ gs) s k rest e =
    (elim (p g) as (λ b. map sort_of (cond b (g ∷ filter p gs) (filter p gs)) ≡ (s, k) ∷ rest → (h : Scope) × (cond b (Some g) (find p gs) ≡ Some h) × (h.kind ≡ k)) [
      | true ↦ λ w. (let both : sort_of g ≡ (s, k) = cc in (g, refl, ap (λ (o : ScopeId × Kind). o.1) both))
      | false ↦ λ w. first_owned p gs s k rest w
    ]) e

none_first : (p : Scope → Bool) (gs : List Scope) → map sort_of (filter p gs) ≡ [] → find p gs ≡ None
none_first p [] e = refl
none_first p (g ∷ gs) e =
    (elim (p g) as (λ b. map sort_of (cond b (g ∷ filter p gs) (filter p gs)) ≡ [] → cond b (Some g) (find p gs) ≡ None) [
      | true ↦ λ w. absurd (let v : ⊥ = cc in v)
      | false ↦ λ w. none_first p gs w
    ]) e

pub may_wait_next : MayWaitNext
may_wait_next U es who s rest folds told may =
    let T = tree_of U.places es in
    record {
      caller = elim may.caller [
        | inl x ↦
            let own = first_owned (opened_by who.task) T.scopes s Finish rest (owned_as_told U es who.task x.task folds x.stands ∙ told) in
            inl (record {
              task = x.task;
              stands = x.stands;
              says = x.says;
              inner_is = x.inner_is;
              allowed = record { moving = x.allowed; scope = own.0; own = own.1; finish = own.2 };
            })
        | inr x ↦ inr x
      ];
      numbers = may.numbers;
    }

pub may_end_next : MayEndNext
may_end_next U es who folds told may =
    let T = tree_of U.places es in
    record {
      caller = elim may.caller [
        | inl x ↦
            inl (record {
              task = x.task;
              stands = x.stands;
              says = x.says;
              inner_is = x.inner_is;
              allowed = record { moving = x.allowed; none_open = none_first (opened_by who.task) T.scopes (owned_as_told U es who.task x.task folds x.stands ∙ told) };
            })
        | inr x ↦ inr x
      ];
      numbers = may.numbers;
    }
