-- Each tree that a history can reach is sound.
use Rattle.std.proofs.Common.{◌≡◌, ℕ, suc, ◌<◌, true, false, ◌==◌, List, ◌∷◌, ◌++◌, is_some, find, Option, Some, None, filter, length, not, refl, sym, ap, ◌∙◌, subst, arith}
use Rattle.std.proofs.lemmas.Bool.{eq-eqb, ne_eqb, or_right, and_right}
use Rattle.rx_rules.proofs.Common.{Fault, PlaceId, TaskId, ScopeId, Tree, task_of, is_task, inner, is_under, the_root, AllowedAct, Allowed, made_act, after_end, without, opened, born, add_task, Reached, opens, acts, dies, joins}
use Rattle.rx_rules.specs.declared.entries.Act.{Act}
use Rattle.rx_rules.specs.declared.entries.Act.TheVariants.{Open, At as Calls, Spawn, Arrive, Wait, Release, End, Print, Census}
use Rattle.rx_rules.specs.declared.entries.Entry.TheVariants.{Join}
use Rattle.rx_rules.specs.declared.tasks.Task.{Task}
use Rattle.rx_rules.specs.declared.tasks.Where.{Where}
use Rattle.rx_rules.specs.declared.tasks.Where.TheVariants.{At, Travel}
use Rattle.rx_rules.specs.declared.tasks.Kind.TheVariants.{Finish, Call}
use Rattle.rx_tree_laws.proofs.Changes.{each_more}
use Rattle.rx_rules.specs.Reached.{ends}
use Rattle.rx_tree_laws.specs.Sound.{Sound, Inside, TaskFits}
use Rattle.rx_tree_laws.specs.Blows.{death_blow, blow_at}
use Rattle.rx_tree_laws.proofs.Reach.{task_below, sound_opening, sound_add, fits_born, fits_of, sound_waits, sound_arrive, sound_faults, sound_dies, sound_leaves}
use Rattle.rx_tree_laws.proofs.Opening.{inner_fits, sound_opened, governs_rooted}
use Rattle.rx_tree_laws.proofs.Releasing.{sound_without, leaves}
use Rattle.rx_tree_laws.specs.Chains.{meets}
use Rattle.rx_tree_laws.proofs.Stay.{find_filter}

-- the place of a live task lives
home_lives : (T : Tree) (t : TaskId) (x : Task) (p : PlaceId) → Sound T → task_of T t ≡ Some x → x.struck ≡ None → x.place ≡ At p → death_blow T.dead p ≡ None
home_lives T t x p h stands free at = sym (ap (blow_at T.dead) at) ∙ sym (fits_of T t x h stands).struck ∙ free

home_inside : (T : Tree) (t : TaskId) (x : Task) (p : PlaceId) → Sound T → task_of T t ≡ Some x → x.place ≡ At p → p.0 < T.places
home_inside T t x p h stands at = subst (Inside T.places) at (fits_of T t x h stands).inside

pub sound_spawn : (T : Tree) (t child : TaskId) (s : ScopeId) (from to : PlaceId) (path : List ℕ) → Sound T → AllowedAct T t (Spawn child s from to path) → Sound (add_task (born T child s from to) T)
sound_spawn T t child s from to path h may =
    let c = inner_fits T t may.task h may.stands in
    sound_add T (born T child s from to) h may.asks.1
    (fits_born T child s from to (home_lives T t may.task from h may.stands may.unstruck may.asks.0.0) (home_inside T t may.task from h may.stands may.asks.0.0) may.asks.3
    (subst (λ (v : ScopeId). meets the_root T.scopes (Some v) ≡ true) (sym may.asks.2) (governs_rooted T.next_scope T.scopes (Some (inner T may.task)) h.falls h.root_kind c.rooted)))

pub sound_call : (T : Tree) (t : TaskId) (s r : ScopeId) (callee : TaskId) (from to : PlaceId) (path : List ℕ) → Sound T → AllowedAct T t (Calls from to s r callee path) → Sound (add_task (born T callee s from to) (opened T t Call s r))
sound_call T t s r callee from to path h may =
    let c = inner_fits T t may.task h may.stands in
    let o : Sound (opened T t Call s r) = subst (λ (v : ScopeId). Sound (opened T t Call s v)) (sym may.asks.2) (sound_opened T t may.task from Call s h may.stands may.asks.0.0 may.asks.1) in
    let rooted : meets the_root (opened T t Call s r).scopes (Some s) ≡ true =
    rw (eq-eqb s.0 s.0 refl) (or_right (s.0 == 0) (meets the_root T.scopes (Some r)) (subst (λ (v : ScopeId). meets the_root T.scopes (Some v) ≡ true) (sym may.asks.2) c.rooted))
    in
    sound_add (opened T t Call s r) (born T callee s from to) o may.asks.3
    (fits_born (opened T t Call s r) callee s from to (home_lives T t may.task from h may.stands may.unstruck may.asks.0.0) (home_inside T t may.task from h may.stands may.asks.0.0) may.asks.4 rooted)

-- the caller still stands when the callee is born
caller_stands : (T : Tree) (t : TaskId) (x y : Task) → Sound T → task_of T t ≡ Some x → y.number.0 ≡ T.next_task → find (is_task t) (y ∷ T.tasks) ≡ Some x
caller_stands T t x y h e n =
    let low : t.0 < T.next_task = task_below T.next_task T.tasks t x h.tasks_fall e in
    let apart : y.number.0 == t.0 ≡ false = ne_eqb y.number.0 t.0 (λ q. absurd (omega arith)) in
    rw apart e

ended : (T : Tree) (t : TaskId) (thrown : List Fault) → Sound T → AllowedAct T t (End thrown) → (o : Option Task) → task_of T t ≡ o → Sound (after_end T t thrown)
ended T t thrown h may (Some x) e = rw (e, after_end) (sound_faults (record T { tasks = filter (λ y. not (is_task t y)) T.tasks }) x.under (λ g. g.body) (λ g. g.ends ++ thrown) (sound_leaves T t h may.asks.1))
ended T t thrown h may None e = rw (e, after_end) h

-- an unstruck task stays at a release
pub stays_at_release : (T : Tree) (t : TaskId) (x : Task) (s : ScopeId) → task_of T t ≡ Some x → x.struck ≡ None → task_of (without T s) t ≡ Some x
stays_at_release T t x s e free = find_filter (is_task t) (λ y. not (leaves T s y)) T.tasks x e (ap not (and_right (is_under T s x) (is_some x.struck) (ap is_some free)))

pub sound_acts : (T : Tree) (t : TaskId) (act : Act) → Sound T → AllowedAct T t act → Sound (made_act T t act)
sound_acts T t (Open s r path) h may = subst (λ (v : ScopeId). Sound (opened T t Finish s v)) (sym may.asks.2) (sound_opened T t may.task may.asks.0.0 Finish s h may.stands may.asks.0.1.0 may.asks.1)
sound_acts T t (Calls from to s r callee path) h may = sound_waits _ t may.task true (sound_call T t s r callee from to path h may) (caller_stands T t may.task (born T callee s from to) h may.stands may.asks.3)
sound_acts T t (Spawn child s from to path) h may = sound_spawn T t child s from to path h may
sound_acts T t (Arrive p) h may = sound_arrive T t p h may
sound_acts T t (Wait s thrown) h may = sound_waits _ t may.task true (sound_faults T s (λ g. thrown) (λ g. g.ends) h) may.stands
sound_acts T t (Release s lost masked thrown) h may = sound_waits (without T s) t may.task false (sound_without T s h may.asks.3.is_quiet) (stays_at_release T t may.task s may.stands may.unstruck)
sound_acts T t (End thrown) h may = ended T t thrown h may (task_of T t) refl
sound_acts T t (Print value path) h may = h
sound_acts T t (Census places path) h may = h

-- a place that is there stays inside
wider : (n : ℕ) (w : Where) → Inside n w → Inside (suc n) w
wider n (At p) h = omega (arith, h)
wider n (Travel from to) h = (let a : from.0 < n = h.0 in omega arith, let b : to.0 < n = h.1 in omega arith)

sound_joins : (T : Tree) (p : PlaceId) → Sound T → Allowed T (Join p) → Sound (record T { places = suc T.places })
sound_joins T p h may =
    record {
      falls = h.falls;
      opened = h.opened;
      tasks_fall = h.tasks_fall;
      tasks =
          each_more (TaskFits T.dead T.places T.scopes) (TaskFits T.dead (suc T.places) T.scopes)
          (λ x f. record { struck = f.struck; inside = wider T.places x.place f.inside; rooted = f.rooted }) T.tasks h.tasks;
      gone = h.gone;
      zero_lives = h.zero_lives;
      root_home = h.root_home;
      root_kind = h.root_kind;
      numbered = h.numbered;
      few = let is : p.0 ≡ T.places = may.0 in let low : p.0 < length T.dead = may.1 in omega arith;
    }

pub sound : {T : Tree} → Reached T → Sound T
sound (opens {limit = limit} places low high) = sound_opening limit places low high
sound (acts {T = T} t act h may) = sound_acts T t act (sound h) may
sound (ends {T = T} lost masked thrown h may) = sound_without T the_root (sound h) may.2.is_quiet
sound (dies {T = T} b h may old) = sound_dies T b (sound h) may old
sound (joins {T = T} p h may) = sound_joins T p (sound h) may
