-- Each entry that is allowed keeps a tree sound.
use Rattle.std.proofs.Common.{◌≡◌, ℕ, zero, suc, ◌<◌, ◌≤◌, Bool, true, false, cond, ◌||◌, ◌&&◌, ◌==◌, not, List, [], ◌∷◌, Option, Some, None, filter, map, slice_set, slice_index_or, replicate, option_map, length, All, refl, sym, ap, ◌∙◌, subst, arith, ltb, ⊎_elim}
use Rattle.std.specs.List.{find, list_any}
use Rattle.std.proofs.lemmas.Bool.{eqb-true, ne_eqb, true≢false}
use Rattle.std.proofs.lemmas.List.{get_or-set_other, length-replicate, length-set}
use Rattle.rx_rules.proofs.Common.{Fault, PlaceId, TaskId, ScopeId, Tree, is_task, task_of, is_scope, opened_by, own_scope, is_finish, the_root, change_first, change_task, change_scope, add_task, born, strike, hit, AllowedAct, Allowed, wide_opening, IsOlder}
use Rattle.rx_rules.specs.declared.tasks.Where.TheVariants.{At, Travel}
use Rattle.rx_rules.specs.declared.tasks.Blow.{Blow}
use Rattle.rx_rules.specs.declared.tasks.Task.{Task}
use Rattle.rx_rules.specs.declared.tasks.Scope.{Scope}
use Rattle.rx_rules.specs.declared.entries.Act.TheVariants.{Arrive}
use Rattle.rx_rules.specs.declared.entries.Entry.TheVariants.{Death}
use Rattle.rx_rules.proofs.Lookups.{number-of}
use Rattle.rx_tree_laws.specs.Chains.{meets}
use Rattle.rx_tree_laws.specs.Sound.{TasksFall, TaskFits, LeftFits, Sound, Inside}
use Rattle.rx_tree_laws.specs.Blows.{death_blow, earlier, blow_at}
use Rattle.rx_tree_laws.proofs.Changes.{each_found, each_more, each_map, each_change, each_filter}
use Rattle.rx_tree_laws.proofs.Stay.{opened_stays, find_change, fall_change, fall_filter, fall_map, find_filter, find_map, faulted, meets_faulted, falls_faulted, any_faulted, opened_faulted}
use Rattle.rx_tree_laws.proofs.Blows.{struck_after, still_struck, hit_number, hit_under, hit_place}

-- where nobody has died no flag is set
pub no_dead : (n p : ℕ) → slice_index_or {A = Option ℕ} (replicate n None) p None ≡ None
no_dead zero p = refl
no_dead (suc n) zero = refl
no_dead (suc n) (suc p) = no_dead n p

pub sound_opening : (limit places : ℕ) → 1 ≤ places → places ≤ limit → Sound (wide_opening limit places)
sound_opening limit places low high =
    record {
      falls = (omega arith, tt);
      opened = ((refl, refl), tt);
      tasks_fall = (omega arith, tt);
      tasks = (record { struck = sym (ap (option_map (λ n. let b : Blow = record { place = record { 0 = 0 }; entry = n } in b)) (no_dead limit 0)); inside = low; rooted = refl }, tt);
      gone = tt;
      zero_lives = no_dead limit 0;
      root_home = refl;
      root_kind = refl;
      numbered = omega arith;
      few = subst (λ n. places ≤ n) (sym (length-replicate limit None)) high;
    }

-- who stands has a number below the next
pub task_below : (n : ℕ) (ts : List Task) (o : TaskId) (x : Task) → TasksFall n ts → find (is_task o) ts ≡ Some x → o.0 < n
task_below n [] o x h e = cc
task_below n (y ∷ ys) o x h e =
    let a : y.number.0 < n = h.0 in
    (elim (y.number.0 == o.0) as (λ b. y.number.0 == o.0 ≡ b → cond b (Some y) (find (is_task o) ys) ≡ Some x → o.0 < n) [
      | true ↦ λ q k. let same : y.number.0 ≡ o.0 = eqb-true y.number.0 o.0 q in omega arith
      | false ↦ λ q k. let r : o.0 < y.number.0 = task_below y.number.0 ys o x h.1 k in omega arith
    ]) refl e

-- Births.

none_second : (a b : Option Blow) → earlier a b ≡ None → b ≡ None
none_second None b e = e
none_second (Some c) None e = cc
none_second (Some c) (Some d) e = (elim (ltb c.entry d.entry) as (λ v. cond v (Some c) (Some d) ≡ None → Some d ≡ None) [ true ↦ λ k. cc | false ↦ λ k. cc ]) e

pub fits_born : (T : Tree) (n : TaskId) (u : ScopeId) (from to : PlaceId) → death_blow T.dead from ≡ None → from.0 < T.places → to.0 < T.places → meets the_root T.scopes (Some u) ≡ true → TaskFits T.dead T.places T.scopes (born T n u from to)
fits_born T n u from to free inside target rooted =
    record {
      struck = elim (from.0 == to.0) as (λ c. death_blow T.dead to ≡ blow_at T.dead (cond c (At to) (Travel from to))) [
        | true ↦ refl
        | false ↦ sym (ap (λ o. earlier o (death_blow T.dead to)) free)
      ];
      inside = elim (from.0 == to.0) as (λ c. Inside T.places (cond c (At to) (Travel from to))) [
        | true ↦ target
        | false ↦ (inside, target)
      ];
      rooted = rooted;
    }

pub sound_add : (T : Tree) (x : Task) → Sound T → x.number.0 ≡ T.next_task → TaskFits T.dead T.places T.scopes x → Sound (add_task x T)
sound_add T x h e fits =
    record {
      falls = h.falls;
      opened =
          opened_stays T.tasks (x ∷ T.tasks) T.scopes
          (λ o y p a found at.
          let low : o.0 < T.next_task = task_below T.next_task T.tasks o y h.tasks_fall found in
          let apart : x.number.0 == o.0 ≡ false = ne_eqb x.number.0 o.0 (λ q. absurd (omega arith)) in
          record { task = y; stands = rw apart found; under = refl; place = at })
          h.opened;
      tasks_fall = (omega arith, subst (λ n. TasksFall n T.tasks) (sym e) h.tasks_fall);
      tasks = (fits, h.tasks);
      gone = h.gone;
      zero_lives = h.zero_lives;
      root_home = h.root_home;
      root_kind = h.root_kind;
      numbered = h.numbered;
      few = h.few;
    }

-- A task changes its place or its waiting.

pub sound_task : (T : Tree) (t : TaskId) (x : Task) (f : Task → Task) → Sound T → task_of T t ≡ Some x → ((y : Task) → (f y).number ≡ y.number) → (f x).under ≡ x.under → ((p : PlaceId) → x.place ≡ At p → (f x).place ≡ At p) → TaskFits T.dead T.places T.scopes (f x) → Sound (change_task f t T)
sound_task T t x f h stands number under place fits =
    record {
      falls = h.falls;
      opened =
          opened_stays T.tasks (change_first (is_task t) f T.tasks) T.scopes
          (λ o y p a found at.
          ⊎_elim
          (λ (k : find (is_task o) (change_first (is_task t) f T.tasks) ≡ Some y). record { task = y; stands = k; under = refl; place = at })
          (λ (k : (find (is_task o) (change_first (is_task t) f T.tasks) ≡ Some (f y)) × (find (is_task t) T.tasks ≡ Some y)).
          let same : x ≡ y = cc in
          record { task = f y; stands = k.0; under = subst (λ (v : Task). (f v).under ≡ v.under) same under; place = subst (λ (v : Task). v.place ≡ At p → (f v).place ≡ At p) same (place p) at })
          (find_change (is_task o) (is_task t) f (λ y. ap (λ (v : TaskId). v.0 == o.0) (number y)) T.tasks y found))
          h.opened;
      tasks_fall = fall_change (is_task t) f number T.next_task T.tasks h.tasks_fall;
      tasks = each_change (TaskFits T.dead T.places T.scopes) (is_task t) f T.tasks (λ y k old. let same : x ≡ y = cc in subst (λ (v : Task). TaskFits T.dead T.places T.scopes (f v)) same fits) h.tasks;
      gone = h.gone;
      zero_lives = h.zero_lives;
      root_home = h.root_home;
      root_kind = h.root_kind;
      numbered = h.numbered;
      few = h.few;
    }

pub fits_of : (T : Tree) (t : TaskId) (x : Task) → Sound T → task_of T t ≡ Some x → TaskFits T.dead T.places T.scopes x
fits_of T t x h e = each_found (TaskFits T.dead T.places T.scopes) (is_task t) T.tasks x h.tasks e

pub sound_waits : (T : Tree) (t : TaskId) (x : Task) (b : Bool) → Sound T → task_of T t ≡ Some x → Sound (change_task (λ y. record y { waits = b }) t T)
sound_waits T t x b h e =
    let f = fits_of T t x h e in
    sound_task T t x (λ y. record y { waits = b }) h e (λ y. refl) refl (λ p k. k) (record { struck = f.struck; inside = f.inside; rooted = f.rooted })

pub sound_arrive : (T : Tree) (t : TaskId) (p : PlaceId) → Sound T → AllowedAct T t (Arrive p) → Sound (change_task (λ y. record y { place = At p }) t T)
sound_arrive T t p h may =
    let f = fits_of T t may.task h may.stands in
    let free : earlier (death_blow T.dead may.asks.0) (death_blow T.dead p) ≡ None = sym (ap (blow_at T.dead) may.asks.1) ∙ sym f.struck ∙ may.unstruck in
    sound_task T t may.task (λ y. record y { place = At p }) h may.stands (λ y. refl) refl
    (λ q k. let bad : Travel may.asks.0 p ≡ At q = sym may.asks.1 ∙ k in cc)
    (record {
      struck = may.unstruck ∙ sym (none_second (death_blow T.dead may.asks.0) (death_blow T.dead p) free);
      inside = (subst (Inside T.places) may.asks.1 f.inside).1;
      rooted = f.rooted;
    })

-- Faults of a scope.

pub sound_faults : (T : Tree) (s : ScopeId) (b e : Scope → List Fault) → Sound T → Sound (change_scope (faulted b e) s T)
sound_faults T s b e h =
    record {
      falls = falls_faulted b e (is_scope s) T.next_scope T.scopes h.falls;
      opened = opened_faulted b e (is_scope s) T.tasks T.scopes h.opened;
      tasks_fall = h.tasks_fall;
      tasks = each_more (TaskFits T.dead T.places T.scopes) (TaskFits T.dead T.places (change_first (is_scope s) (faulted b e) T.scopes)) (λ x f. record { struck = f.struck; inside = f.inside; rooted = meets_faulted b e (is_scope s) the_root T.scopes (Some x.under) ∙ f.rooted }) T.tasks h.tasks;
      gone = h.gone;
      zero_lives = h.zero_lives;
      root_home = any_faulted b e (is_scope s) (λ g. is_scope the_root g && not (g.home.0 == 0)) (λ g. refl) T.scopes ∙ h.root_home;
      root_kind = any_faulted b e (is_scope s) (λ g. is_scope the_root g && not (is_finish g.kind)) (λ g. refl) T.scopes ∙ h.root_kind;
      numbered = h.numbered;
      few = h.few;
    }

-- Deaths.

pub sound_dies : (T : Tree) (b : Blow) → Sound T → Allowed T (Death b.place) → All (IsOlder b.entry) T.dead → Sound (strike b T)
sound_dies T b h may old =
    let inside : b.place.0 < length T.dead = (let p : b.place.0 < T.places = may.0 in let q : T.places ≤ length T.dead = h.few in omega arith) in
    record {
      falls = h.falls;
      opened =
          opened_stays T.tasks (map (hit b) T.tasks) T.scopes
          (λ o x p a found at. record { task = hit b x; stands = find_map (is_task o) (hit b) (λ y. ap (λ (v : TaskId). v.0 == o.0) (hit_number b y)) T.tasks x found; under = hit_under b x; place = hit_place b x ∙ at })
          h.opened;
      tasks_fall = fall_map (hit b) (hit_number b) T.next_task T.tasks h.tasks_fall;
      tasks =
          each_map (TaskFits T.dead T.places T.scopes) (TaskFits (slice_set T.dead b.place.0 (Some b.entry)) T.places T.scopes) (hit b)
          (λ x f. record {
            struck = struck_after T.dead b x inside may.2 old f.struck ∙ ap (blow_at (slice_set T.dead b.place.0 (Some b.entry))) (sym (hit_place b x));
            inside = subst (Inside T.places) (sym (hit_place b x)) f.inside;
            rooted = subst (λ (v : ScopeId). meets the_root T.scopes (Some v) ≡ true) (sym (hit_under b x)) f.rooted;
          })
          T.tasks h.tasks;
      gone = each_more (LeftFits T.dead) (LeftFits (slice_set T.dead b.place.0 (Some b.entry))) (λ x f. record { struck = still_struck T.dead b x inside may.2 old f.struck f.is_struck; is_struck = f.is_struck }) T.gone h.gone;
      zero_lives = get_or-set_other T.dead b.place.0 0 (Some b.entry) None (λ e. may.1 (sym e)) ∙ h.zero_lives;
      root_home = h.root_home;
      root_kind = h.root_kind;
      numbered = h.numbered;
      few = let e : length (slice_set T.dead b.place.0 (Some b.entry)) ≡ length T.dead = length-set T.dead b.place.0 (Some b.entry) in let q : T.places ≤ length T.dead = h.few in omega arith;
    }

-- Ends.

not_found : {X : Type 0} (p : X → Bool) (xs : List X) → list_any p xs ≡ true → find p xs ≡ None → ⊥
not_found p [] a e = absurd (true≢false (sym a))
not_found p (x ∷ xs) a e =
    (elim (p x) as (λ b. b || list_any p xs ≡ true → cond b (Some x) (find p xs) ≡ None → ⊥) [
      | true ↦ λ a2 e2. cc
      | false ↦ λ a2 e2. not_found p xs a2 e2
    ]) a e

pub sound_leaves : (T : Tree) (t : TaskId) → Sound T → own_scope T t ≡ None → Sound (record T { tasks = filter (λ y. not (is_task t y)) T.tasks })
sound_leaves T t h own =
    record {
      falls = h.falls;
      opened =
          opened_stays T.tasks (filter (λ y. not (is_task t y)) T.tasks) T.scopes
          (λ o x p a found at.
          let apart : is_task t x ≡ false =
          ne_eqb x.number.0 t.0 (λ e.
          let num : x.number.0 ≡ o.0 = number-of T o x found in
          let same : o ≡ t = ap (λ (n : ℕ). let q : TaskId = record { 0 = n } in q) (sym num ∙ e) in
          not_found (opened_by t) T.scopes (subst (λ (v : TaskId). list_any (opened_by v) T.scopes ≡ true) same a) own)
          in
          record { task = x; stands = find_filter (is_task o) (λ y. not (is_task t y)) T.tasks x found (ap not apart); under = refl; place = at })
          h.opened;
      tasks_fall = fall_filter (λ y. not (is_task t y)) T.next_task T.tasks h.tasks_fall;
      tasks = each_filter (TaskFits T.dead T.places T.scopes) (λ y. not (is_task t y)) T.tasks h.tasks;
      gone = h.gone;
      zero_lives = h.zero_lives;
      root_home = h.root_home;
      root_kind = h.root_kind;
      numbered = h.numbered;
      few = h.few;
    }
