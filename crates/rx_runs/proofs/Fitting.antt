-- Each turn keeps that terms fit to the tree.
use Rattle.std.proofs.Common.{◌≡◌, ◌≢◌, ℕ, zero, suc, ◌%◌, ◌<◌, ◌≤◌, Bool, true, false, cond, not, ◌==◌, List, [], ◌∷◌, ◌++◌, length, filter, map, slice_get, slice_set, Option, Some, None, refl, ap, ◌∙◌, sym, subst, arith, ⊎_elim, length-set}
use Rattle.std.specs.List.{find}
use Rattle.std.proofs.lemmas.Bool.{eq-eqb, eqb-true, true≢false, cases_lt}
use Rattle.std.proofs.lemmas.Option.{slice_get_within}
use Rattle.rx_rules.proofs.Common.{PlaceId, TaskId, ScopeId, Fault, Block, Term, Empty, Turns, Trying, Body, no_vars, Answer, items, Does, Local, Makes, Gets, Puts, Forgets, Opens, Calls as Asks, Spawns, Waits, Releases, Prints, Counts, Done, does, granted, child, Tree, is_task, task_of, is_scope, the_root, waiting, resumed, without, born, hit, strike, made_act, made, after_end, AllowedAct, Tells, raised_by, brought, started_by, State, Reached, Given, in_all, NoRoot, Player, Game, RunsWithoutEntry, stays, local, stores, Turn, acted, child_of, enabled, tree_in, start_game}
use Rattle.rx_rules.specs.declared.tasks.Blow.{Blow}
use Rattle.rx_rules.specs.declared.tasks.Task.{Task}
use Rattle.rx_rules.specs.declared.tasks.Scope.{Scope}
use Rattle.rx_rules.specs.declared.tasks.Kind.{Kind}
use Rattle.rx_rules.specs.declared.tasks.Kind.TheVariants.{Finish, Call}
use Rattle.rx_rules.specs.declared.tasks.Where.TheVariants.{At}
use Rattle.rx_rules.specs.declared.entries.Act.{Act}
use Rattle.rx_rules.specs.declared.entries.Act.TheVariants.{Open, At as Calls, Spawn, Arrive, Wait, Release, End, Print, Census}
use Rattle.rx_rules.specs.declared.entries.Entry.{Entry}
use Rattle.rx_rules.specs.declared.entries.Entry.TheVariants.{Step, Root, Death, Join}
use Rattle.rx_rules.specs.declared.events.Cell.{Cell}
use Rattle.rx_rules.specs.declared.events.PlaceEvent.{PlaceEvent}
use Rattle.rx_base.proofs.Elements.{get-set}
use Rattle.rx_base.proofs.SameIds.{task-is}
use Rattle.rx_rules.specs.declared.tasks.Blow.{Blow}
use Rattle.rx_rules.specs.declared.tasks.Task.{Task}
use Rattle.rx_rules.specs.declared.tasks.Scope.{Scope}
use Rattle.rx_rules.specs.declared.tasks.Kind.{Kind}
use Rattle.rx_rules.specs.declared.tasks.Kind.TheVariants.{Finish, Call}
use Rattle.rx_rules.specs.declared.tasks.Where.TheVariants.{At}
use Rattle.rx_rules.specs.declared.entries.Act.{Act}
use Rattle.rx_rules.specs.declared.entries.Act.TheVariants.{Open, At as Calls, Spawn, Arrive, Wait, Release, End, Print, Census}
use Rattle.rx_rules.specs.declared.entries.Entry.{Entry}
use Rattle.rx_rules.specs.declared.entries.Entry.TheVariants.{Step, Root, Death, Join}
use Rattle.rx_rules.specs.declared.events.Cell.{Cell}
use Rattle.rx_rules.specs.declared.events.PlaceEvent.{PlaceEvent}
use Rattle.rx_rules.specs.Plays.{Fits}
use Rattle.rx_rules.specs.Picked as picked
use Rattle.rx_rules.proofs.Append.{tree-push}
use Rattle.rx_rules.proofs.Numbers.{next-tree}
use Rattle.rx_tree_laws.specs.Sound.{Inside, Sound}
use Rattle.rx_tree_laws.proofs.Blows.{hit_number}
use Rattle.rx_tree_laws.proofs.Reach.{task_below, fits_of}
use Rattle.rx_tree_laws.proofs.Reached.{sound, stays_at_release}
use Rattle.rx_tree_laws.proofs.Owning.{release_pops}
use Rattle.rx_tree_laws.proofs.Waiting.{OpenersBelow, openers_below, hit_free, hit_waits}
use Rattle.rx_runs.specs.Framing.{frames, first, Flat, FlatAfterItem, kinds_of, Match, TermFits, TermsFit}
use Rattle.rx_runs.specs.Games.{GameOk, PlayerSo}
use Rattle.rx_runs.proofs.Asking.{one_task}
use Rattle.rx_runs.proofs.Framing.{Framed, Stored, enough, all_framed, flat_items, flat_shape, flat_frames}
use Rattle.rx_runs.proofs.Keeping.{root_not}
use Rattle.rx_runs.proofs.Pairs.{pairs-length}
use Rattle.rx_runs.proofs.Planned.{IsPlanned, due_planned}
use Rattle.rx_runs.proofs.Picks.{Pick, picked_task, reached_in}
use Rattle.rx_runs.proofs.Scopes.{find_other, find_own, find_gone, find_unmap, skip, kinds_own, kinds_faulted, kinds_none, new_scope, other_act}

-- The task that acts.

fit_as : {kinds now : List Kind} {fs : List Bool} {t : Term} {waits : Bool} → now ≡ kinds → frames t ≡ fs → FlatAfterItem t → Match fs kinds → waits ≡ first fs → TermFits now waits t
fit_as {kinds = kinds} {now = now} {fs = fs} {t = t} ek ef shape match waits =
    record {
      shape = shape;
      frames_are = subst (λ (v : List Bool). Match v now) (sym ef) (subst (λ (v : List Kind). Match fs v) (sym ek) match);
      waits_is = waits ∙ ap first (sym ef);
    }

-- a body of a finish that waits now
waits_match : (fs : List Bool) (ks : List Kind) → Match (false ∷ fs) ks → Match (true ∷ fs) ks
waits_match fs [] m = m
waits_match fs (k ∷ ks) m = ((λ e. absurd (true≢false e)), m.1)

-- below the innermost frame none waits
abbrev rest : List Bool → List Bool
rest [] = []
rest (b ∷ bs) = bs

rest_push : (fs : List Bool) → first (rest fs) ≡ false → first (rest (fs ++ false ∷ [])) ≡ false
rest_push [] h = refl
rest_push (b ∷ []) h = refl
rest_push (b ∷ c ∷ fs) h = h

rest_calm : (t : Term) → first (rest (frames t)) ≡ false
rest_calm (Trying inside dead_only handler x more) = rest_calm inside
rest_calm (Body inside more) = rest_push (frames inside) (rest_calm inside)
rest_calm _ = refl

own_fits : (T : Tree) (t : TaskId) (x y : Task) (here : PlaceId) (places : ℕ) (q : Term) (d : Does) (act : Act) → Reached T → task_of T t ≡ Some x → TermFits (kinds_of T t) x.waits q → Framed places q d → Fits here q d act → AllowedAct T t act → task_of (made_act T t act) t ≡ Some y → TermFits (kinds_of (made_act T t act) t) y.waits (granted (brought act) q)
own_fits T t x y here places q (Local left vars) act r found fit f fits may after = absurd fits
own_fits T t x y here places q (Makes name words) act r found fit f fits may after = absurd fits
own_fits T t x y here places q (Gets name target index) act r found fit f fits may after = absurd fits
own_fits T t x y here places q (Puts target index value) act r found fit f fits may after = absurd fits
own_fits T t x y here places q (Forgets target) act r found fit f fits may after = absurd fits
own_fits T t x y here places q Opens (Open a0 a1 a2) r found fit f fits may after =
    let same : x ≡ y = one_task T t x y found after in
    fit_as (kinds_own (new_scope T t Finish a0 a1) T.scopes t (eq-eqb t.0 t.0 refl)) f.3 f.2 (((λ e. refl), fit.frames_are)) (ap (λ (v : Task). v.waits) (sym same) ∙ fit.waits_is ∙ f.0)
own_fits T t x y here places q Opens (Calls a3 a4 a0 a1 a2 a5) r found fit f fits may after = absurd fits
own_fits T t x y here places q Opens (Spawn a0 a1 a2 a3 a4) r found fit f fits may after = absurd fits
own_fits T t x y here places q Opens (Arrive a0) r found fit f fits may after = absurd fits
own_fits T t x y here places q Opens (Wait a0 a1) r found fit f fits may after = absurd fits
own_fits T t x y here places q Opens (Release a0 a1 a2 a3) r found fit f fits may after = absurd fits
own_fits T t x y here places q Opens (End a0) r found fit f fits may after = absurd fits
own_fits T t x y here places q Opens (Print a0 a1) r found fit f fits may after = absurd fits
own_fits T t x y here places q Opens (Census a0 a1) r found fit f fits may after = absurd fits
own_fits T t x y here places q (Asks pl) (Open a0 a1 a2) r found fit f fits may after = absurd fits
own_fits T t x y here places q (Asks pl) (Calls a3 a4 a0 a1 a2 a5) r found fit f fits may after =
    let low : t.0 < T.next_task = task_below T.next_task T.tasks t x (sound r).tasks_fall found in
    let new : a2.0 ≡ T.next_task = may.asks.3 in
    let there : find (is_task t) (born T a2 a0 a3 a4 ∷ T.tasks) ≡ Some x = skip (born T a2 a0 a3 a4) T.tasks t (λ e. omega arith) ∙ found in
    let same : waiting x ≡ y = (let e : Some (waiting x) ≡ Some y = sym (find_own t waiting (λ v. refl) (born T a2 a0 a3 a4 ∷ T.tasks) x there) ∙ after in cc) in
    fit_as (kinds_own (new_scope T t Call a0 a1) T.scopes t (eq-eqb t.0 t.0 refl)) f.5 f.4 (((λ e. absurd (true≢false e)), fit.frames_are)) (ap (λ (v : Task). v.waits) (sym same))
own_fits T t x y here places q (Asks pl) (Spawn a0 a1 a2 a3 a4) r found fit f fits may after = absurd fits
own_fits T t x y here places q (Asks pl) (Arrive a0) r found fit f fits may after = absurd fits
own_fits T t x y here places q (Asks pl) (Wait a0 a1) r found fit f fits may after = absurd fits
own_fits T t x y here places q (Asks pl) (Release a0 a1 a2 a3) r found fit f fits may after = absurd fits
own_fits T t x y here places q (Asks pl) (End a0) r found fit f fits may after = absurd fits
own_fits T t x y here places q (Asks pl) (Print a0 a1) r found fit f fits may after = absurd fits
own_fits T t x y here places q (Asks pl) (Census a0 a1) r found fit f fits may after = absurd fits
own_fits T t x y here places q (Spawns pl) (Open a0 a1 a2) r found fit f fits may after = absurd fits
own_fits T t x y here places q (Spawns pl) (Calls a3 a4 a0 a1 a2 a5) r found fit f fits may after = absurd fits
own_fits T t x y here places q (Spawns pl) (Spawn a0 a1 a2 a3 a4) r found fit f fits may after =
    let low : t.0 < T.next_task = task_below T.next_task T.tasks t x (sound r).tasks_fall found in
    let new : a0.0 ≡ T.next_task = may.asks.1 in
    let there : find (is_task t) (born T a0 a1 a2 a3 ∷ T.tasks) ≡ Some x = skip (born T a0 a1 a2 a3) T.tasks t (λ e. omega arith) ∙ found in
    let same : x ≡ y = (let e : Some x ≡ Some y = sym there ∙ after in cc) in
    fit_as {kinds = kinds_of T t} refl f.4.1 f.4.0 fit.frames_are (ap (λ (v : Task). v.waits) (sym same) ∙ fit.waits_is)
own_fits T t x y here places q (Spawns pl) (Arrive a0) r found fit f fits may after = absurd fits
own_fits T t x y here places q (Spawns pl) (Wait a0 a1) r found fit f fits may after = absurd fits
own_fits T t x y here places q (Spawns pl) (Release a0 a1 a2 a3) r found fit f fits may after = absurd fits
own_fits T t x y here places q (Spawns pl) (End a0) r found fit f fits may after = absurd fits
own_fits T t x y here places q (Spawns pl) (Print a0 a1) r found fit f fits may after = absurd fits
own_fits T t x y here places q (Spawns pl) (Census a0 a1) r found fit f fits may after = absurd fits
own_fits T t x y here places q (Waits faults) (Open a0 a1 a2) r found fit f fits may after = absurd fits
own_fits T t x y here places q (Waits faults) (Calls a3 a4 a0 a1 a2 a5) r found fit f fits may after = absurd fits
own_fits T t x y here places q (Waits faults) (Spawn a0 a1 a2 a3 a4) r found fit f fits may after = absurd fits
own_fits T t x y here places q (Waits faults) (Arrive a0) r found fit f fits may after = absurd fits
own_fits T t x y here places q (Waits faults) (Wait a0 a1) r found fit f fits may after =
    let same : waiting x ≡ y = (let e : Some (waiting x) ≡ Some y = sym (find_own t waiting (λ v. refl) T.tasks x found) ∙ after in cc) in
    fit_as (kinds_faulted (λ g. a1) (λ g. g.ends) (is_scope a0) T.scopes t) f.3 f.2 (waits_match f.0 (kinds_of T t) (subst (λ (fs : List Bool). Match fs (kinds_of T t)) f.1 fit.frames_are)) (ap (λ (v : Task). v.waits) (sym same))
own_fits T t x y here places q (Waits faults) (Release a0 a1 a2 a3) r found fit f fits may after = absurd fits
own_fits T t x y here places q (Waits faults) (End a0) r found fit f fits may after = absurd fits
own_fits T t x y here places q (Waits faults) (Print a0 a1) r found fit f fits may after = absurd fits
own_fits T t x y here places q (Waits faults) (Census a0 a1) r found fit f fits may after = absurd fits
own_fits T t x y here places q Releases (Open a0 a1 a2) r found fit f fits may after = absurd fits
own_fits T t x y here places q Releases (Calls a3 a4 a0 a1 a2 a5) r found fit f fits may after = absurd fits
own_fits T t x y here places q Releases (Spawn a0 a1 a2 a3 a4) r found fit f fits may after = absurd fits
own_fits T t x y here places q Releases (Arrive a0) r found fit f fits may after = absurd fits
own_fits T t x y here places q Releases (Wait a0 a1) r found fit f fits may after = absurd fits
own_fits T t x y here places q Releases (Release a0 a1 a2 a3) r found fit f fits may after =
    let free : x.struck ≡ None = (let e : may.task ≡ x = one_task T t may.task x may.stands found in ap (λ (v : Task). v.struck) (sym e) ∙ may.unstruck) in
    let there : find (is_task t) (without T a0).tasks ≡ Some x = stays_at_release T t x a0 found free in
    let same : resumed x ≡ y = (let e : Some (resumed x) ≡ Some y = sym (find_own t resumed (λ v. refl) (without T a0).tasks x there) ∙ after in cc) in
    let popped = release_pops T t a0 a1 a2 a3 r may in
    let kinds : kinds_of T t ≡ popped.0.kind ∷ kinds_of (made_act T t (Release a0 a1 a2 a3)) t = ap (λ (gs : List Scope). map (λ (k : Scope). k.kind) gs) popped.2 in
    let match : Match (true ∷ f.0) (popped.0.kind ∷ kinds_of (made_act T t (Release a0 a1 a2 a3)) t) = subst (λ (ks : List Kind). Match (true ∷ f.0) ks) kinds (subst (λ (fs : List Bool). Match fs (kinds_of T t)) f.1 fit.frames_are) in
    let left = f.2 (raised_by a1 a3) in
    fit_as {kinds = kinds_of (made_act T t (Release a0 a1 a2 a3)) t} refl left.1 left.0 match.1 (ap (λ (v : Task). v.waits) (sym same) ∙ sym (subst (λ (fs : List Bool). first (rest fs) ≡ false) f.1 (rest_calm q)))
own_fits T t x y here places q Releases (End a0) r found fit f fits may after = absurd fits
own_fits T t x y here places q Releases (Print a0 a1) r found fit f fits may after = absurd fits
own_fits T t x y here places q Releases (Census a0 a1) r found fit f fits may after = absurd fits
own_fits T t x y here places q (Prints z) (Open a0 a1 a2) r found fit f fits may after = absurd fits
own_fits T t x y here places q (Prints z) (Calls a3 a4 a0 a1 a2 a5) r found fit f fits may after = absurd fits
own_fits T t x y here places q (Prints z) (Spawn a0 a1 a2 a3 a4) r found fit f fits may after = absurd fits
own_fits T t x y here places q (Prints z) (Arrive a0) r found fit f fits may after = absurd fits
own_fits T t x y here places q (Prints z) (Wait a0 a1) r found fit f fits may after = absurd fits
own_fits T t x y here places q (Prints z) (Release a0 a1 a2 a3) r found fit f fits may after = absurd fits
own_fits T t x y here places q (Prints z) (End a0) r found fit f fits may after = absurd fits
own_fits T t x y here places q (Prints z) (Print a0 a1) r found fit f fits may after =
    let same : x ≡ y = one_task T t x y found after in
    fit_as {kinds = kinds_of T t} refl f.2.1 f.2.0 fit.frames_are (ap (λ (v : Task). v.waits) (sym same) ∙ fit.waits_is)
own_fits T t x y here places q (Prints z) (Census a0 a1) r found fit f fits may after = absurd fits
own_fits T t x y here places q (Counts name) (Open a0 a1 a2) r found fit f fits may after = absurd fits
own_fits T t x y here places q (Counts name) (Calls a3 a4 a0 a1 a2 a5) r found fit f fits may after = absurd fits
own_fits T t x y here places q (Counts name) (Spawn a0 a1 a2 a3 a4) r found fit f fits may after = absurd fits
own_fits T t x y here places q (Counts name) (Arrive a0) r found fit f fits may after = absurd fits
own_fits T t x y here places q (Counts name) (Wait a0 a1) r found fit f fits may after = absurd fits
own_fits T t x y here places q (Counts name) (Release a0 a1 a2 a3) r found fit f fits may after = absurd fits
own_fits T t x y here places q (Counts name) (End a0) r found fit f fits may after = absurd fits
own_fits T t x y here places q (Counts name) (Print a0 a1) r found fit f fits may after = absurd fits
own_fits T t x y here places q (Counts name) (Census a0 a1) r found fit f fits may after =
    let same : x ≡ y = one_task T t x y found after in
    fit_as {kinds = kinds_of T t} refl f.2.1 f.2.0 fit.frames_are (ap (λ (v : Task). v.waits) (sym same) ∙ fit.waits_is)
own_fits T t x y here places q (Done faults) act r found fit f fits may after = absurd fits

-- The task that an act starts.

calls_flat : (here : PlaceId) (places : ℕ) (q : Term) (d : Does) (a0 a1 : ScopeId) (a2 : TaskId) (a3 a4 : PlaceId) (a5 : List ℕ) → Framed places q d → Fits here q d (Calls a3 a4 a0 a1 a2 a5) → Flat (child q)
calls_flat here places q (Asks pl) a0 a1 a2 a3 a4 a5 f h = f.3
calls_flat here places q _ a0 a1 a2 a3 a4 a5 f h = absurd h

spawns_flat : (here : PlaceId) (places : ℕ) (q : Term) (d : Does) (a0 : TaskId) (a1 : ScopeId) (a2 a3 : PlaceId) (a4 : List ℕ) → Framed places q d → Fits here q d (Spawn a0 a1 a2 a3 a4) → Flat (child q)
spawns_flat here places q (Spawns pl) a0 a1 a2 a3 a4 f h = f.3
spawns_flat here places q _ a0 a1 a2 a3 a4 f h = absurd h

head_found : (x : Task) (xs : List Task) (u : TaskId) → x.number.0 ≡ u.0 → find (is_task u) (x ∷ xs) ≡ Some x
head_found x xs u e = ap (λ b. cond b (Some x) (find (is_task u) xs)) (eq-eqb x.number.0 u.0 e)

-- the task that an act starts has the next number
starts_next : (T : Tree) (t : TaskId) (act : Act) (c : TaskId) → AllowedAct T t act → started_by act ≡ Some c → c.0 ≡ T.next_task
starts_next T t (Open a0 a1 a2) c may e = cc
starts_next T t (Calls a3 a4 a0 a1 a2 a5) c may e = (let it : a2 ≡ c = cc in ap (λ (v : TaskId). v.0) (sym it) ∙ may.asks.3)
starts_next T t (Spawn a0 a1 a2 a3 a4) c may e = (let it : a0 ≡ c = cc in ap (λ (v : TaskId). v.0) (sym it) ∙ may.asks.1)
starts_next T t (Arrive a0) c may e = cc
starts_next T t (Wait a0 a1) c may e = cc
starts_next T t (Release a0 a1 a2 a3) c may e = cc
starts_next T t (End a0) c may e = cc
starts_next T t (Print a0 a1) c may e = cc
starts_next T t (Census a0 a1) c may e = cc

fit_new : (q : Term) (kinds : List Kind) (waits : Bool) → Flat (child q) → kinds ≡ [] → waits ≡ false → TermFits kinds waits (child q)
fit_new q kinds waits flat none calm = fit_as {kinds = []} {fs = []} none (flat_frames (child q) flat) (flat_shape (child q) flat) tt calm

child_fits : (T : Tree) (t c : TaskId) (y : Task) (here : PlaceId) (places : ℕ) (q : Term) (d : Does) (act : Act) → Reached T → t.0 < T.next_task → Framed places q d → Fits here q d act → AllowedAct T t act → started_by act ≡ Some c → task_of (made_act T t act) c ≡ Some y → TermFits (kinds_of (made_act T t act) c) y.waits (child q)
child_fits T t c y here places q d (Open a0 a1 a2) r low f fits may e found = cc
child_fits T t c y here places q d (Calls a3 a4 a0 a1 a2 a5) r low f fits may e found =
    let h : Sound T = sound r in
    let it : a2 ≡ c = cc in
    let new : a2.0 ≡ T.next_task = may.asks.3 in
    let num : a2.0 ≡ c.0 = ap (λ (v : TaskId). v.0) it in
    let there : find (is_task c) (born T a2 a0 a3 a4 ∷ T.tasks) ≡ Some y = sym (find_other t c waiting (λ v. refl) (λ w. omega arith) (born T a2 a0 a3 a4 ∷ T.tasks)) ∙ found in
    let same : born T a2 a0 a3 a4 ≡ y = (let e2 : Some (born T a2 a0 a3 a4) ≡ Some y = sym (head_found (born T a2 a0 a3 a4) T.tasks c num) ∙ there in cc) in
    let below : OpenersBelow T.next_task (new_scope T t Call a0 a1 ∷ T.scopes) = ((λ v mine. let w : t.0 ≡ v.0 = eqb-true t.0 v.0 mine in omega arith), openers_below T.next_task T.tasks T.scopes h.tasks_fall h.opened) in
    fit_new q (kinds_of (made_act T t (Calls a3 a4 a0 a1 a2 a5)) c) y.waits (calls_flat here places q d a0 a1 a2 a3 a4 a5 f fits)
    (kinds_none T.next_task (new_scope T t Call a0 a1 ∷ T.scopes) c below (sym num ∙ new)) (ap (λ (v : Task). v.waits) (sym same))
child_fits T t c y here places q d (Spawn a0 a1 a2 a3 a4) r low f fits may e found =
    let h : Sound T = sound r in
    let it : a0 ≡ c = cc in
    let new : a0.0 ≡ T.next_task = may.asks.1 in
    let num : a0.0 ≡ c.0 = ap (λ (v : TaskId). v.0) it in
    let same : born T a0 a1 a2 a3 ≡ y = (let e2 : Some (born T a0 a1 a2 a3) ≡ Some y = sym (head_found (born T a0 a1 a2 a3) T.tasks c num) ∙ found in cc) in
    fit_new q (kinds_of (made_act T t (Spawn a0 a1 a2 a3 a4)) c) y.waits (spawns_flat here places q d a0 a1 a2 a3 a4 f fits)
    (kinds_none T.next_task T.scopes c (openers_below T.next_task T.tasks T.scopes h.tasks_fall h.opened) (sym num ∙ new)) (ap (λ (v : Task). v.waits) (sym same))
child_fits T t c y here places q d (Arrive a0) r low f fits may e found = cc
child_fits T t c y here places q d (Wait a0 a1) r low f fits may e found = cc
child_fits T t c y here places q d (Release a0 a1 a2 a3) r low f fits may e found = cc
child_fits T t c y here places q d (End a0) r low f fits may e found = cc
child_fits T t c y here places q d (Print a0 a1) r low f fits may e found = cc
child_fits T t c y here places q d (Census a0 a1) r low f fits may e found = cc

-- Players.

pub get_left : {X : Type 0} (xs ys : List X) (i : ℕ) → i < length xs → slice_get (xs ++ ys) i ≡ slice_get xs i
get_left [] ys i low = absurd (omega arith)
get_left (x ∷ xs) ys zero low = refl
get_left (x ∷ xs) ys (suc i) low = get_left xs ys i (omega arith)

get_last : {X : Type 0} (xs : List X) (a : X) (i : ℕ) (p : X) → length xs ≤ i → slice_get (xs ++ a ∷ []) i ≡ Some p → (a ≡ p) × (length xs ≡ i)
get_last [] a zero p le h = ((cc), refl)
get_last [] a (suc i) p le h = cc
get_last (x ∷ xs) a zero p le h = absurd (omega arith)
get_last (x ∷ xs) a (suc i) p le h = let r = get_last xs a i p (omega arith) h in (r.0, ap suc r.1)

get_past : {X : Type 0} (xs : List X) (i : ℕ) (p : X) → length xs ≤ i → slice_get (xs ++ []) i ≡ Some p → ⊥
get_past [] i p le h = cc
get_past (x ∷ xs) zero p le h = absurd (omega arith)
get_past (x ∷ xs) (suc i) p le h = get_past xs i p (omega arith) h

pub set_other : {X : Type 0} (xs : List X) (k i : ℕ) (a : X) → k ≢ i → slice_get (slice_set xs k a) i ≡ slice_get xs i
set_other [] k i a o = refl
set_other (x ∷ xs) zero zero a o = absurd (o refl)
set_other (x ∷ xs) zero (suc i) a o = refl
set_other (x ∷ xs) (suc k) zero a o = refl
set_other (x ∷ xs) (suc k) (suc i) a o = set_other xs k i a (λ e. o (ap suc e))

-- the child's player
abbrev kids : Player → Option TaskId → List Player
kids p o = elim o as (λ _. List Player) [ Some c ↦ record { term = child p.term; vars = p.vars; batch = [] } ∷ [] | None ↦ [] ]

module _ (T : Tree) (r : Reached T) (players : List Player) (size : length players ≡ T.next_task) (all : TermsFit T players) where
  -- another task that lived before
  other_fits : (t : TaskId) (act : Act) → AllowedAct T t act → (u : TaskId) (y : Task) (p : Player) → t.0 ≢ u.0 → u.0 < T.next_task → task_of (made_act T t act) u ≡ Some y → y.struck ≡ None → slice_get players u.0 ≡ Some p → TermFits (kinds_of (made_act T t act) u) y.waits p.term
  other_fits t act may u y p o low found free at =
      let s = other_act T t act (sound r) may u y o low found free in
      subst (λ (ks : List Kind). TermFits ks y.waits p.term) (sym s.kinds) (all u y p s.found free at)

  fits_move : (t : TaskId) (x : Task) (here : PlaceId) (places : ℕ) (q : Player) (d : Does) (act : Act) → task_of T t ≡ Some x → TermFits (kinds_of T t) x.waits q.term → Framed places q.term d → Fits here q.term d act → AllowedAct T t act → TermsFit (made_act T t act) (slice_set players t.0 (acted here q act) ++ child_of q act)
  fits_move t x here places q d act found fit f fits may u y p there free at =
      let last : Player = acted here q act in
      let low : t.0 < T.next_task = task_below T.next_task T.tasks t x (sound r).tasks_fall found in
      let long : length (slice_set players t.0 last) ≡ length players = length-set players t.0 last in
      ⊎_elim
      (λ (lt : u.0 < length players).
      let at2 : slice_get (slice_set players t.0 last) u.0 ≡ Some p = sym (get_left (slice_set players t.0 last) (child_of q act) u.0 (omega arith)) ∙ at in
      (elim (t.0 == u.0) as (λ b. t.0 == u.0 ≡ b → TermFits (kinds_of (made_act T t act) u) y.waits p.term) [
        | true ↦ λ e.
            let same : t ≡ u = task-is t u (eqb-true t.0 u.0 e) in
            let mine : last ≡ p = (let k : Some last ≡ Some p = sym (get-set players t.0 last (omega arith)) ∙ subst (λ (v : TaskId). slice_get (slice_set players t.0 last) v.0 ≡ Some p) (sym same) at2 in cc) in
            subst (λ (v : TaskId). TermFits (kinds_of (made_act T t act) v) y.waits p.term) same
            (subst (λ (v : Player). TermFits (kinds_of (made_act T t act) t) y.waits v.term) mine
            (own_fits T t x y here places q.term d act r found fit f fits may (subst (λ (v : TaskId). task_of (made_act T t act) v ≡ Some y) (sym same) there)))
        | false ↦ λ e.
            let apart : t.0 ≢ u.0 = λ k. true≢false (sym (eq-eqb t.0 u.0 k) ∙ e) in
            other_fits t act may u y p apart (omega arith) there free (sym (set_other players t.0 u.0 last apart) ∙ at2)
      ]) refl)
      (λ (ge : length players ≤ u.0). new (started_by act) refl (slice_set players t.0 last) long ge at low)
      (cases_lt u.0 (length players))
    where
      new : (o : Option TaskId) → started_by act ≡ o → (ps : List Player) → length ps ≡ length players → length players ≤ u.0 → slice_get (ps ++ kids q (started_by act)) u.0 ≡ Some p → t.0 < T.next_task → TermFits (kinds_of (made_act T t act) u) y.waits p.term
      new None e ps long ge at low = absurd (get_past ps u.0 p (omega arith) (subst (λ (o : Option TaskId). slice_get (ps ++ kids q o) u.0 ≡ Some p) e at))
      new (Some c) e ps long ge at low =
          let k = get_last ps (record { term = child q.term; vars = q.vars; batch = [] }) u.0 p (omega arith) (subst (λ (o : Option TaskId). slice_get (ps ++ kids q o) u.0 ≡ Some p) e at) in
          let num : c.0 ≡ T.next_task = starts_next T t act c may e in
          let at_u : length ps ≡ u.0 = k.1 in
          let same : c ≡ u = task-is c u (omega arith) in
          subst (λ (v : TaskId). TermFits (kinds_of (made_act T t act) v) y.waits p.term) same
          (subst (λ (v : Player). TermFits (kinds_of (made_act T t act) c) y.waits v.term) k.0
          (child_fits T t c y here places q.term d act r low f fits may e (subst (λ (v : TaskId). task_of (made_act T t act) v ≡ Some y) (sym same) there)))

  fits_arrival : (t : TaskId) (p : PlaceId) → AllowedAct T t (Arrive p) → TermsFit (made_act T t (Arrive p)) players
  fits_arrival t p may u y o there free at =
      (elim (t.0 == u.0) as (λ b. t.0 == u.0 ≡ b → TermFits (kinds_of T u) y.waits o.term) [
        | true ↦ λ e.
            let same : t ≡ u = task-is t u (eqb-true t.0 u.0 e) in
            let there2 : task_of (made_act T t (Arrive p)) t ≡ Some y = subst (λ (v : TaskId). task_of (made_act T t (Arrive p)) v ≡ Some y) (sym same) there in
            let it : record may.task { place = At p } ≡ y = (let k : Some (record may.task { place = At p }) ≡ Some y = sym (find_own t (λ v. record v { place = At p }) (λ v. refl) T.tasks may.task may.stands) ∙ there2 in cc) in
            subst (λ (w : Bool). TermFits (kinds_of T u) w o.term) (ap (λ (v : Task). v.waits) it)
            (all u may.task o (subst (λ (v : TaskId). task_of T v ≡ Some may.task) same may.stands) may.unstruck at)
        | false ↦ λ e.
            let apart : t.0 ≢ u.0 = λ k. true≢false (sym (eq-eqb t.0 u.0 k) ∙ e) in
            other_fits t (Arrive p) may u y o apart (within_next u o at) there free at
      ]) refl
    where
      within_next : (u : TaskId) (o : Player) → slice_get players u.0 ≡ Some o → u.0 < T.next_task
      within_next u o at = let low : u.0 < length players = slice_get_within players u.0 o at in omega arith

  fits_end : (t : TaskId) (faults : List Fault) → AllowedAct T t (End faults) → TermsFit (made_act T t (End faults)) players
  fits_end t faults may u y o there free at =
      (elim (t.0 == u.0) as (λ b. t.0 == u.0 ≡ b → TermFits (kinds_of (made_act T t (End faults)) u) y.waits o.term) [
        | true ↦ λ e.
            let same : t ≡ u = task-is t u (eqb-true t.0 u.0 e) in
            absurd (find_gone t T.tasks y (subst (λ (xs : List Task). find (is_task t) xs ≡ Some y) (after_tasks may.task may.stands) (subst (λ (v : TaskId). task_of (made_act T t (End faults)) v ≡ Some y) (sym same) there)))
        | false ↦ λ e.
            let apart : t.0 ≢ u.0 = λ k. true≢false (sym (eq-eqb t.0 u.0 k) ∙ e) in
            let low : u.0 < length players = slice_get_within players u.0 o at in
            other_fits t (End faults) may u y o apart (omega arith) there free at
      ]) refl
    where
      after_tasks : (x : Task) → task_of T t ≡ Some x → (after_end T t faults).tasks ≡ filter (λ z. not (is_task t z)) T.tasks
      after_tasks x e = rw (e, after_end) refl

  fits_death : (b : Blow) → TermsFit (strike b T) players
  fits_death b u y o there free at =
      let old = find_unmap (is_task u) (hit b) (λ x. ap (λ (v : TaskId). v.0 == u.0) (hit_number b x)) T.tasks y there in
      let free2 : old.0.struck ≡ None = hit_free b old.0 (ap (λ (v : Task). v.struck) (sym old.2) ∙ free) in
      subst (λ (w : Bool). TermFits (kinds_of T u) w o.term) (sym (ap (λ (v : Task). v.waits) old.2 ∙ hit_waits b old.0)) (all u old.0 o old.1 free2 at)

  -- what is planned
  fits_due : (n : ℕ) (e : Entry) → IsPlanned e → TermsFit (made n T e) players
  fits_due n (Death d) h = fits_death (record { place = d; entry = n })
  fits_due n (Join p) h = all
  fits_due n (Step t act batch) h = absurd h
  fits_due n (Root lost masked thrown) h = absurd h

-- The walk of a turn.

store_framed : (places : ℕ) (t : Term) (d : Does) (here : PlaceId) (c : Cell) (a : Answer) → Framed places t d → Tells d here c a → Stored t
store_framed places t (Makes name words) here c a f h = f
store_framed places t (Gets name target index) here c a f h = f
store_framed places t (Puts target index value) here c a f h = f
store_framed places t (Forgets target) here c a f h = f
store_framed places t _ here c a f h = absurd h

pub goes_frames : {heap n : ℕ} {t : TaskId} {here : PlaceId} {p q : Player} {S Z : State} {j k : List PlaceEvent} → RunsWithoutEntry heap n t here p S j q Z k → FlatAfterItem p.term → FlatAfterItem q.term × (frames q.term ≡ frames p.term)
goes_frames stays shape = (shape, refl)
goes_frames {here = here} {p = p} (local {after = after} {left = left} e g) shape =
    let f : Framed (enough p.vars here.0) p.term (Local after left) = subst (λ (d : Does). Framed (enough p.vars here.0) p.term d) e (all_framed p.vars here.0 p.term shape) in
    let more = goes_frames g f.1.0 in
    (more.0, more.1 ∙ f.1.1)
goes_frames {here = here} {p = p} (stores cell x a tells at may g) shape =
    let st = store_framed (enough p.vars here.0) p.term (does p.vars here.0 p.term) here cell a (all_framed p.vars here.0 p.term shape) tells in
    let keeps = st.2 a in
    let more = goes_frames g keeps.0 in
    (more.0, more.1 ∙ keeps.1)

pub starts_fit : (code : Block) (U : Given) → TermsFit (tree_in U (start_game code U)) (start_game code U).players
starts_fit code U u x p found free at =
    let first_is : (v : ℕ) → slice_get ((start_game code U).players) v ≡ Some p → record { term = items code [] Empty; vars = no_vars U.places; batch = [] } ≡ p = at_zero in
    subst (λ (v : Player). TermFits (kinds_of (tree_in U (start_game code U)) u) x.waits v.term) (first_is u.0 at)
    (fit_as {kinds = []} {fs = []} refl (flat_frames (items code [] Empty) (flat_items code [] 0 Empty tt)) (flat_shape (items code [] Empty) (flat_items code [] 0 Empty tt)) tt (calm found))
  where
    at_zero : (v : ℕ) → slice_get ((start_game code U).players) v ≡ Some p → record { term = items code [] Empty; vars = no_vars U.places; batch = [] } ≡ p
    at_zero zero e = cc
    at_zero (suc v) e = cc

    calm : task_of (tree_in U (start_game code U)) u ≡ Some x → x.waits ≡ false
    calm e = (elim (0 == u.0) as (λ b. cond b (Some (record { number = record { 0 = 0 }; under = the_root; place = At (record { 0 = 0 }); waits = false; struck = None })) None ≡ Some x → x.waits ≡ false) [
      | true ↦ λ k. (let same : record { number = record { 0 = 0 }; under = the_root; place = At (record { 0 = 0 }); waits = false; struck = None } ≡ x = cc in ap (λ (v : Task). v.waits) (sym same))
      | false ↦ λ k. cc
    ]) e

-- Turns.

pub next_is : (code : Block) (U : Given) (G : Game) → (ok : GameOk code U G) → length G.players ≡ (tree_in U G).next_task
next_is code U G ok = sym (pairs-length (PlayerSo ok.starts G.entries G.journals) 0 ok.starts G.players ok.each) ∙ ok.all ∙ sym (next-tree U.places G.entries)

-- a task at a place is at one that exists
pub place_inside : (code : Block) (U : Given) (G : Game) → GameOk code U G → (x : Task) (here : PlaceId) → task_of (tree_in U G) x.number ≡ Some x → x.place ≡ At here → here.0 < (tree_in U G).places
place_inside code U G ok x here stands at =
    let fits = fits_of (tree_in U G) x.number x (sound (reached_in code U G ok)) stands in
    subst (Inside (tree_in U G).places) at fits.inside

pub fits_keeps : (code : Block) (U : Given) (n : ℕ) (used : Bool) (G G' : Game) → GameOk code U G → TermsFit (tree_in U G) G.players → Turn U n G used G' → NoRoot G'.entries → TermsFit (tree_in U G') G'.players
fits_keeps code U n used G G' ok all (picked.due e now) free =
    subst (λ (V : Tree). TermsFit V G.players) (sym (tree-push U.places G.entries e))
    (fits_due (tree_in U G) (reached_in code U G ok) G.players (next_is code U G ok) all (length G.entries) e (due_planned (length G.entries) (in_all U) (tree_in U G).places G.entries G.plan e now ok.plan))
fits_keeps code U n used G G' ok all (picked.arrives x p takes may) free =
    subst (λ (V : Tree). TermsFit V G.players) (sym (tree-push U.places G.entries (Step x.number (Arrive p) [])))
    (fits_arrival (tree_in U G) (reached_in code U G ok) G.players (next_is code U G ok) all x.number p may)
fits_keeps code U n used G G' ok all (picked.moves x here p q S Z j act takes at player store goes fits may) free =
    let T : Tree = tree_in U G in
    let one : Pick T x = picked_task T (n % length (enabled T)) x (reached_in code U G ok) takes.1 in
    let fit = all x.number x p one.stands one.free player in
    let walked = goes_frames goes fit.shape in
    let fit2 : TermFits (kinds_of T x.number) x.waits q.term = fit_as {kinds = kinds_of T x.number} refl walked.1 walked.0 fit.frames_are fit.waits_is in
    subst (λ (V : Tree). TermsFit V (slice_set G.players x.number.0 (acted here q act) ++ child_of q act)) (sym (tree-push U.places G.entries (Step x.number act q.batch)))
    (fits_move T (reached_in code U G ok) G.players (next_is code U G ok) all x.number x here (enough q.vars here.0) q (does q.vars here.0 q.term) act one.stands fit2 (all_framed q.vars here.0 q.term walked.0) fits may)
fits_keeps code U n used G G' ok all (picked.ends x here p q S Z j faults takes at player store goes done may) free =
    subst (λ (V : Tree). TermsFit V G.players) (sym (tree-push U.places G.entries (Step x.number (End faults) q.batch)))
    (fits_end (tree_in U G) (reached_in code U G ok) G.players (next_is code U G ok) all x.number faults may)
fits_keeps code U n used G G' ok all (picked.root lost masked thrown none_due empty may) free = absurd (root_not G.entries lost masked thrown free)
