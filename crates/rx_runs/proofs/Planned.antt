-- What is planned: what may come of it, and what is left.
use Rattle.std.proofs.Common.{◌≡◌, ◌≢◌, ℕ, suc, ◌≤◌, nat_le, true, false, cond, List, [], ◌∷◌, ◌++◌, refl, ap, ◌∙◌, sym, subst, arith}
use Rattle.rx_rules.proofs.Common.{PlaceId, TaskId, Kill, Event, put_in, events, IsDue, rest_of, death_number, NoRoot}
use Rattle.rx_base.proofs.SameIds.{place-is}
use Rattle.rx_rules.specs.declared.entries.Act.{Act}
use Rattle.rx_rules.specs.declared.entries.Entry.{Entry}
use Rattle.rx_rules.specs.declared.entries.Entry.TheVariants.{Step, Root, Death, Join}
use Rattle.rx_runs.specs.Segments.{plan_left}
use Rattle.rx_runs.specs.Ties.{MayBe, MayCome, SparesIn, places_after}
use Rattle.rx_runs.proofs.Journals.{death_same, other_death}

-- what can be planned
abbrev pub IsPlanned : Entry → Type 0
IsPlanned (Death d) = Unit {0}
IsPlanned (Join p) = Unit {0}
IsPlanned (Step t act batch) = ⊥
IsPlanned (Root lost masked thrown) = ⊥

is_planned : (here : ℕ) (es : List Entry) (xs : List Event) (e : Entry) → MayBe here es xs e → IsPlanned e
is_planned here es xs (Death d) h = tt
is_planned here es xs (Join p) h = tt
is_planned here es xs (Step t act batch) h = h
is_planned here es xs (Root lost masked thrown) h = h

pub planned_no_root : (e : Entry) → IsPlanned e → NoRoot (e ∷ [])
planned_no_root (Death d) h = tt
planned_no_root (Join p) h = tt
planned_no_root (Step t act batch) h = absurd h
planned_no_root (Root lost masked thrown) h = absurd h

-- all that is planned are deaths and joins

abbrev pub EachPlanned : List Event → Type 0
EachPlanned [] = Unit {0}
EachPlanned (x ∷ xs) = IsPlanned x.entry × EachPlanned xs

pub each_due : (n : ℕ) (e : Entry) (xs : List Event) → EachPlanned xs → IsDue n e xs → IsPlanned e
each_due n e [] h due = absurd due
each_due n e (x ∷ xs) h due = subst IsPlanned due.0 h.0

pub rest_planned : (xs : List Event) → EachPlanned xs → EachPlanned (rest_of xs)
rest_planned [] h = h
rest_planned (x ∷ xs) h = h.1

put_planned : (e : Event) (xs : List Event) → IsPlanned e.entry → EachPlanned xs → EachPlanned (put_in e xs)
put_planned e [] h all = (h, tt)
put_planned e (x ∷ xs) h all =
    elim (nat_le e.moment x.moment) as (λ b. EachPlanned (cond b (e ∷ x ∷ xs) (x ∷ put_in e xs))) [
      | true ↦ (h, all)
      | false ↦ (all.0, put_planned e xs h all.1)
    ]

deaths_planned : (ks : List Kill) → EachPlanned (events 0 [] ks)
deaths_planned [] = tt
deaths_planned (k ∷ ks) = (tt, deaths_planned ks)

pub events_planned : (p : ℕ) (es : List ℕ) (ks : List Kill) → EachPlanned (events p es ks)
events_planned p [] ks = deaths_planned ks
events_planned p (e ∷ es) ks = put_planned (record { moment = e; entry = Join (record { 0 = p }) }) (events (suc p) es ks) tt (events_planned (suc p) es ks)

-- what is due
pub due_may : (n all here : ℕ) (es : List Entry) (xs : List Event) (e : Entry) → IsDue n e xs → MayCome all here es xs → MayBe here es (rest_of xs) e
due_may n all here es [] e due h = absurd due
due_may n all here es (x ∷ xs) e due h = subst (λ (v : Entry). MayBe here es xs v) due.0 h.0

pub due_planned : (n all here : ℕ) (es : List Entry) (xs : List Event) (e : Entry) → IsDue n e xs → MayCome all here es xs → IsPlanned e
due_planned n all here es xs e due h = is_planned here es (rest_of xs) e (due_may n all here es xs e due h)

-- and what comes after it
pub rest_may : (n all here : ℕ) (es : List Entry) (xs : List Event) (e : Entry) → IsDue n e xs → MayCome all here es xs → MayCome all (places_after e here) es (rest_of xs)
rest_may n all here es [] e due h = absurd due
rest_may n all here es (x ∷ xs) e due h = subst (λ (v : Entry). MayCome all (places_after v here) es xs) due.0 h.1

-- an entry that is no death
be_on : (here : ℕ) (es fs : List Entry) (xs : List Event) (e : Entry) → ((p : PlaceId) → death_number 0 p fs ≡ death_number 0 p es) → MayBe here es xs e → MayBe here fs xs e
be_on here es fs xs (Death d) f h = (h.0, h.1, f d ∙ h.2, h.3)
be_on here es fs xs _ f h = h

pub may_on : (all here : ℕ) (es fs : List Entry) (xs : List Event) → ((p : PlaceId) → death_number 0 p fs ≡ death_number 0 p es) → MayCome all here es xs → MayCome all here fs xs
may_on all here es fs [] f h = h
may_on all here es fs (x ∷ xs) f h = (be_on here es fs xs x.entry f h.0, may_on all (places_after x.entry here) es fs xs f h.1)

-- and one that is
be_dies : (here : ℕ) (es : List Entry) (d : PlaceId) (xs : List Event) (e : Entry) → e ≢ Death d → MayBe here es xs e → MayBe here (es ++ Death d ∷ []) xs e
be_dies here es d xs (Death c) a h =
    (h.0, h.1, death_same c es (Death d) (other_death c d es (λ e. a (ap (λ (p : PlaceId). Death p) (place-is c d (sym e))))) ∙ h.2, h.3)
be_dies here es d xs _ a h = h

pub may_dies : (all here : ℕ) (es : List Entry) (d : PlaceId) (xs : List Event) → SparesIn d xs → MayCome all here es xs → MayCome all here (es ++ Death d ∷ []) xs
may_dies all here es d [] a h = h
may_dies all here es d (x ∷ xs) a h = (be_dies here es d xs x.entry a.0 h.0, may_dies all (places_after x.entry here) es d xs a.1 h.1)

-- the places that are there are no more than all
step_within : (here : ℕ) (e : Entry) → here ≤ places_after e here
step_within here (Death d) = omega arith
step_within here _ = omega arith

pub come_within : (all here : ℕ) (es : List Entry) (xs : List Event) → MayCome all here es xs → here ≤ all
come_within all here es [] h = omega (arith, h)
come_within all here es (x ∷ xs) h = omega (arith, step_within here x.entry, come_within all (places_after x.entry here) es xs h.1)

-- What is left.

pub left-step : (xs : List Event) (es : List Entry) (t : TaskId) (act : Act) (batch : List (List ℕ)) → plan_left xs (es ++ Step t act batch ∷ []) ≡ plan_left xs es
left-step xs [] t act batch = refl
left-step xs (Step u a b ∷ es) t act batch = left-step xs es t act batch
left-step xs (Root l m f ∷ es) t act batch = left-step xs es t act batch
left-step xs (Death d ∷ es) t act batch = left-step (rest_of xs) es t act batch
left-step xs (Join p ∷ es) t act batch = left-step (rest_of xs) es t act batch

pub left-death : (xs : List Event) (es : List Entry) (d : PlaceId) → plan_left xs (es ++ Death d ∷ []) ≡ rest_of (plan_left xs es)
left-death xs [] d = refl
left-death xs (Step u a b ∷ es) d = left-death xs es d
left-death xs (Root l m f ∷ es) d = left-death xs es d
left-death xs (Death c ∷ es) d = left-death (rest_of xs) es d
left-death xs (Join p ∷ es) d = left-death (rest_of xs) es d

pub left-join : (xs : List Event) (es : List Entry) (p : PlaceId) → plan_left xs (es ++ Join p ∷ []) ≡ rest_of (plan_left xs es)
left-join xs [] p = refl
left-join xs (Step u a b ∷ es) p = left-join xs es p
left-join xs (Root l m f ∷ es) p = left-join xs es p
left-join xs (Death d ∷ es) p = left-join (rest_of xs) es p
left-join xs (Join q ∷ es) p = left-join (rest_of xs) es p
