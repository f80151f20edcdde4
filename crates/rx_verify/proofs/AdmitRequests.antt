-- What a request asks of an act, in parts.
use Rattle.std.proofs.Common.{◌≡◌, ℕ, ℤ, Bool, true, false, ◌&&◌, ◌==◌, ◌≤◌, suc, List, [], drop, Option, Some, refl, ap, sym, subst, ◌∙◌, arith}
use Rattle.std.specs.List.{filter_map}
use Rattle.std.proofs.lemmas.Bool.{true≢false, and_parts, eqb-true, eq-eqb}
use Rattle.std.proofs.lemmas.Bool.Decides.{Decides-int_eq}
use Rattle.std.specs.Cmp.Derive.{both_true}
use Rattle.rx_rules.proofs.Common.{PlaceId, TaskId, ScopeId, PlaceSet, Fault, Player, Cells, brought, cell_of, journal_at, raised_by, vars_told, Vars, Term, Does, Local, Opens, Calls, Spawns, Waits, Releases, Prints, Counts, Done, Empty, does, begins, granted, replaced}
use Rattle.rx_rules.specs.declared.entries.Act.{Act}
use Rattle.rx_rules.specs.declared.entries.Act.TheVariants.{Open, At as Called, Spawn, Wait, Release, Print, Census}
use Rattle.rx_rules.specs.declared.events.PlaceEvent.{PlaceEvent}
use Rattle.rx_rules.specs.Plays.{Fits}
use Rattle.rx_runs.specs.Steps.{steps}
use Rattle.rx_finish.specs.declared.ledger.Caller.{Caller}
use Rattle.rx_ledger.specs.TermAsks.{who_after}
use Rattle.rx_syntax.specs.Shape.{Shape}
use Rattle.rx_control.specs.declared.control.Control.{Control}
use Rattle.rx_control.specs.Stands.{StandsFor}
use Rattle.rx_verdict.specs.Walks.{next_does}
use Rattle.rx_history.specs.declared.step.Want.{Want}
use Rattle.rx_history.specs.declared.step.Want.TheVariants as want
use Rattle.rx_history.specs.declared.step.Next.TheVariants.{Book}
use Rattle.rx_history.specs.Next.{next_of, carried}
use Rattle.rx_verify.specs.declared.seat.Seat.{Seat}
use Rattle.rx_verify.specs.Events.{IsFirst}
use Rattle.rx_verify.specs.Reaching.{wanted}
use Rattle.rx_verify.specs.Stood.{Stood}
use Rattle.rx_verify.specs.Inside.Requests.{FitsRest, ActIsAsked, IsGranted, AfterPath, AfterWait, AfterAct, AfterRequest}
use Rattle.rx_verify.proofs.Callers.{same_task}
use Rattle.rx_tree_laws.specs.TermSteps.{BeginsStatement}
use Rattle.rx_base.proofs.SameIds.{place-is}

-- An act fits exactly where it is of the kind that is wanted and its rest is right.

abbrev Cut : Want → PlaceId → Term → Does → Act → Type 0
Cut w here t d act = (Fits here t d act → (wanted w here act ≡ true) × FitsRest t d act) × (wanted w here act ≡ true → FitsRest t d act → Fits here t d act)

-- it is for this place, and from here
pub sent : (to from here : PlaceId) (place : ℕ) → ((to.0 == place) && (from.0 == here.0)) ≡ true → (to.0 ≡ place) × (from ≡ here)
sent to from here place h =
    let k = and_parts (to.0 == place) (from.0 == here.0) h in
    (eqb-true to.0 place k.0, place-is from here (eqb-true from.0 here.0 k.1))

is_sent : (to from here : PlaceId) (place : ℕ) → to.0 ≡ place → from ≡ here → ((to.0 == place) && (from.0 == here.0)) ≡ true
is_sent to from here place e f = both_true (eq-eqb to.0 place e) (eq-eqb from.0 here.0 (ap (λ (p : PlaceId). p.0) f))

other : {F R : Type 0} → (F → ⊥) → (F → (false ≡ true) × R) × (false ≡ true → R → F)
other none = (λ f. absurd (none f), λ w r. absurd (true≢false (sym w)))

open_cut : (here : PlaceId) (t : Term) (act : Act) → Cut want.Open here t Opens act
open_cut here t (Open s r x) = (λ f. (refl, f), λ w r. r)
open_cut here t act = other (λ f. f)

call_cut : (here : PlaceId) (t : Term) (place : ℕ) (act : Act) → Cut (want.At (record { 0 = place })) here t (Calls place) act
call_cut here t place (Called from to s r c x) =
    (λ f. (is_sent to from here place f.0 f.1, f.2), λ w r. let k = sent to from here place w in (k.0, k.1, r))
call_cut here t place act = other (λ f. f)

spawn_cut : (here : PlaceId) (t : Term) (place : ℕ) (act : Act) → Cut (want.Spawn (record { 0 = place })) here t (Spawns place) act
spawn_cut here t place (Spawn c s from to x) =
    (λ f. (is_sent to from here place f.0 f.1, f.2), λ w r. let k = sent to from here place w in (k.0, k.1, r))
spawn_cut here t place act = other (λ f. f)

wait_cut : (here : PlaceId) (t : Term) (faults : List Fault) (act : Act) → Cut want.Wait here t (Waits faults) act
wait_cut here t faults (Wait s thrown) = (λ f. (refl, ap (λ (v : List Fault). Some v) (sym f)), λ w r. let e : thrown ≡ faults = cc in e)
wait_cut here t faults act = other (λ f. f)

release_cut : (here : PlaceId) (t : Term) (act : Act) → Cut want.Release here t Releases act
release_cut here t (Release s lost masked thrown) = (λ f. (refl, f), λ w r. r)
release_cut here t act = other (λ f. f)

print_cut : (here : PlaceId) (t : Term) (value : ℤ) (act : Act) → Cut (want.Print value) here t (Prints value) act
print_cut here t value (Print z x) = (λ f. ((Decides-int_eq z value).1 f.0, f.1), λ w r. ((Decides-int_eq z value).0 w, r))
print_cut here t value act = other (λ f. f)

census_cut : (here : PlaceId) (t : Term) (name : ℕ) (act : Act) → Cut want.Census here t (Counts name) act
census_cut here t name (Census n x) = (λ f. (refl, f), λ w r. r)
census_cut here t name act = other (λ f. f)

pub fits_cut : (here : PlaceId) (t : Term) (d : Does) (act : Act) (w : Want) → next_of d ≡ Book w → (Fits here t d act → (wanted w here act ≡ true) × FitsRest t d act) × (wanted w here act ≡ true → FitsRest t d act → Fits here t d act)
fits_cut here t Opens act w e = let same : want.Open ≡ w = cc in subst (λ (v : Want). Cut v here t Opens act) same (open_cut here t act)
fits_cut here t (Calls place) act w e = let same : want.At (record { 0 = place }) ≡ w = cc in subst (λ (v : Want). Cut v here t (Calls place) act) same (call_cut here t place act)
fits_cut here t (Spawns place) act w e = let same : want.Spawn (record { 0 = place }) ≡ w = cc in subst (λ (v : Want). Cut v here t (Spawns place) act) same (spawn_cut here t place act)
fits_cut here t (Waits faults) act w e = let same : want.Wait ≡ w = cc in subst (λ (v : Want). Cut v here t (Waits faults) act) same (wait_cut here t faults act)
fits_cut here t Releases act w e = let same : want.Release ≡ w = cc in subst (λ (v : Want). Cut v here t Releases act) same (release_cut here t act)
fits_cut here t (Prints value) act w e = let same : want.Print value ≡ w = cc in subst (λ (v : Want). Cut v here t (Prints value) act) same (print_cut here t value act)
fits_cut here t (Counts name) act w e = let same : want.Census ≡ w = cc in subst (λ (v : Want). Cut v here t (Counts name) act) same (census_cut here t name act)
fits_cut here t _ act w e = absurd (let f : ⊥ = cc in f)

-- Which request is asked.

-- an act other than a census tells nothing
pub untold : (d : Does) (act : Act) (vars : Vars) → ((n : ℕ) (x : List ℕ) → act ≡ Census n x → ⊥) → vars_told d act vars ≡ vars
untold (Counts name) (Census n x) vars h = absurd (h n x refl)
untold d act vars h = refl

pub wants_wait : (w : Want) (here : PlaceId) (s : ScopeId) (thrown : List Fault) → wanted w here (Wait s thrown) ≡ true → w ≡ want.Wait
wants_wait want.Wait here s thrown h = refl
wants_wait w here s thrown h = absurd (true≢false (sym h))

pub asks_wait : (d : Does) → next_of d ≡ Book want.Wait → (faults : List Fault) × (d ≡ Waits faults)
asks_wait (Waits faults) h = (faults, refl)
asks_wait d h = absurd (let f : ⊥ = cc in f)

-- an act that is neither a wait nor a release is asked by the statement that begins
pub begins_it : (here : PlaceId) (d : Does) (act : Act) (b : Option (List ℕ)) → wanted want.Wait here act ≡ false → wanted want.Release here act ≡ false → ActIsAsked here d act → BeginsStatement d b → (x : List ℕ) × (b ≡ Some x)
begins_it here (Local left vars) act b e f a h = absurd (let g = a.1 in let n : ⊥ = cc in n)
begins_it here (Done faults) act b e f a h = absurd (let g = a.1 in let n : ⊥ = cc in n)
begins_it here (Waits faults) act b e f a h =
    let g = a.1 in let same : want.Wait ≡ a.0 = cc in
    absurd (true≢false (sym (ap (λ (w : Want). wanted w here act) same ∙ a.2) ∙ e))
begins_it here Releases act b e f a h =
    let g = a.1 in let same : want.Release ≡ a.0 = cc in
    absurd (true≢false (sym (ap (λ (w : Want). wanted w here act) same ∙ a.2) ∙ f))
begins_it here _ act b e f a h = h

-- Controls that have gone on.

-- where no faults are raised
pub granted_none : (shape : Shape) (c : Control) (t : Term) (faults : List Fault) → faults ≡ [] → IsGranted shape c t faults → IsGranted shape c t []
granted_none shape c t faults e h = subst (λ (v : List Fault). IsGranted shape c t v) e h

-- after a wait, whose faults were taken out first
pub granted_wait : (shape : Shape) (c : Control) (t : Term) → granted [] (replaced t Empty) ≡ granted [] t → steps (replaced t Empty) ≤ steps t → IsGranted shape c (replaced t Empty) [] → IsGranted shape c t []
granted_wait shape c t same fewer h =
    let less : steps (granted [] t) ≤ steps (replaced t Empty) = subst (λ (u : Term). steps u ≤ steps (replaced t Empty)) same h.fewer in
    record { stands = subst (λ (u : Term). StandsFor shape c u) same h.stands; fewer = omega (arith, less, fewer) }

-- an act with a path that is not a census
pub after_path : (shape : Shape) (old new : Control) (here : PlaceId) (t : Term) (act : Act) (path : List ℕ) (b : Bool) → (begins t ≡ Some path → FitsRest t (does old.vars here.0 t) act) × (FitsRest t (does old.vars here.0 t) act → begins t ≡ Some path) → brought act ≡ [] → ((n : ℕ) (x : List ℕ) → act ≡ Census n x → ⊥) → AfterPath shape old new t path b → AfterAct shape old new here t act b
after_path shape old new here t act path true rest none other h =
    (rest.0 h.0, subst (λ (v : List Fault). IsGranted shape new t v) (sym none) h.1, h.2 ∙ sym (untold (does old.vars here.0 t) act old.vars other))
after_path shape old new here t act path false rest none other h = λ f. h (rest.1 f)

-- a wait
pub after_wait : (shape : Shape) (old new : Control) (here : PlaceId) (t : Term) (s : ScopeId) (faults thrown : List Fault) (b : Bool) → does old.vars here.0 t ≡ Waits faults → AfterWait shape old new t faults thrown b → AfterAct shape old new here t (Wait s thrown) b
after_wait shape old new here t s faults thrown true is h =
    (ap carried is ∙ ap (λ (v : List Fault). Some v) h.0, h.1, h.2 ∙ sym (untold (does old.vars here.0 t) (Wait s thrown) old.vars (λ n x e. let f : ⊥ = cc in f)))
after_wait shape old new here t s faults thrown false is h = λ f. h (let e : Some faults ≡ Some thrown = sym (ap carried is) ∙ f in cc)

-- the seat with its control
pub request_made : (shape : Shape) (js : List (List PlaceEvent)) (parents : List ScopeId) (old new : Seat) (number : ℕ) (z : Player) (left : Cells) (act : Act) → Stood shape js old z left → ActIsAsked old.home (next_does old.home z) act → AfterAct shape old.control new.control old.home z.term act true → new.who ≡ who_after parents act old.who → new.home ≡ old.home → new.position ≡ old.position → new.low ≡ suc number → AfterRequest shape js parents old new number z left act true
request_made shape js parents old new number z left act s a h who home position low =
    let d : does old.control.vars old.home.0 z.term ≡ next_does old.home z = ap (λ (v : Vars). does v old.home.0 z.term) s.vars in
    let few = s.few in
    let fewer = h.1.fewer in
    let task : new.who.task ≡ old.who.task = ap (λ (v : Caller). v.task) who ∙ same_task parents act old.who in
    let events : filter_map (cell_of new.who.task.0) (drop new.position (journal_at js new.home.0)) ≡ filter_map (cell_of old.who.task.0) (drop old.position (journal_at js old.home.0)) =
    λ i. filter_map (cell_of (task i).0) (drop (position i) (journal_at js (home i).0)) in (
      (fits_cut old.home z.term (next_does old.home z) act a.0 a.1).1 a.2 (subst (λ (v : Does). FitsRest z.term v act) d h.0),
      record {
        who = who;
        home = home;
        low = low;
        position = position;
        stood = record {
          term = h.1.stands;
          vars = h.2 ∙ (ap (λ (v : Vars). vars_told (does v old.home.0 z.term) act v) s.vars);
          events = events ∙ s.events;
          first = subst (λ (v : TaskId × PlaceId × ℕ). IsFirst v.0.0 (journal_at js v.1.0) v.2 v.2) {x = (old.who.task, old.home, old.position)} {y = (new.who.task, new.home, new.position)} (λ i. (sym task i, sym home i, sym position i)) s.first;
          few = omega (arith, few, fewer);
        };
      },
    )

pub request_missed : (shape : Shape) (js : List (List PlaceEvent)) (old : Seat) (new : Control) (z : Player) (left : Cells) (act : Act) → Stood shape js old z left → ActIsAsked old.home (next_does old.home z) act → AfterAct shape old.control new old.home z.term act false → Fits old.home z.term (next_does old.home z) act → ⊥
request_missed shape js old new z left act s a h f =
    let d : does old.control.vars old.home.0 z.term ≡ next_does old.home z = ap (λ (v : Vars). does v old.home.0 z.term) s.vars in
    h (subst (λ (v : Does). FitsRest z.term v act) (sym d) ((fits_cut old.home z.term (next_does old.home z) act a.0 a.1).0 f).1)

-- a release
pub after_release : (shape : Shape) (old new : Control) (here : PlaceId) (t : Term) (act : Act) (s : ScopeId) (lost : PlaceSet) (masked : ℕ) (thrown : List Fault) → act ≡ Release s lost masked thrown → IsGranted shape new t (raised_by lost thrown) × (new.vars ≡ old.vars) → AfterAct shape old new here t act true
after_release shape old new here t act s lost masked thrown is h =
    subst (λ (v : Act). AfterAct shape old new here t v true) (sym is)
    (tt, h.0, h.1 ∙ sym (untold (does old.vars here.0 t) (Release s lost masked thrown) old.vars (λ n x e. let f : ⊥ = cc in f)))

-- where the act is a wait, the term waits
pub told_wait : (here : PlaceId) (d : Does) (act : Act) (s : ScopeId) (thrown : List Fault) → act ≡ Wait s thrown → ActIsAsked here d act → (faults : List Fault) × (d ≡ Waits faults)
told_wait here d act s thrown is a =
    let w : a.0 ≡ want.Wait = wants_wait a.0 here s thrown (ap (λ (v : Act). wanted a.0 here v) (sym is) ∙ a.2) in
    asks_wait d (a.1 ∙ ap (λ (v : Want). Book v) w)
