-- The plan of a proper setup: what it starts with, how long it is, and that all of it may come.
use Rattle.std.proofs.Common.{◌≡◌, ◌≢◌, ℕ, zero, suc, ◌+◌, ◌-◌, ◌*◌, ◌<◌, ◌≤◌, true, false, cond, nat_le, List, [], ◌∷◌, length, slice_get, Some, refl, ap, ◌∙◌, sym, subst, arith, ⊎_elim}
use Rattle.std.proofs.lemmas.Bool.{cases_lt}
use Rattle.std.proofs.lemmas.Bool.Decides.{nat_tests}
use Rattle.rx_rules.proofs.Common.{PlaceId, Kill, Given, Event, in_all, put_in, events, plan_of, AreJoins, AreKills, Spares, Proper}
use Rattle.rx_base.proofs.Elements.{get-within}
use Rattle.rx_rules.specs.declared.entries.Entry.{Entry}
use Rattle.rx_rules.specs.declared.entries.Entry.TheVariants.{Death, Join}
use Rattle.rx_rules.proofs.Plans.{join_at, NotBefore, starts-join, starts-death}
use Rattle.rx_runs.specs.Ties.{MayCome, SparesIn}
use Rattle.rx_runs.proofs.Pigeons.{kills_fit}

-- How long it is.

long_put : (e : Event) (xs : List Event) → length (put_in e xs) ≡ suc (length xs)
long_put e [] = refl
long_put e (x ∷ xs) =
    elim (nat_le e.moment x.moment) as (λ b. length (cond b (e ∷ x ∷ xs) (x ∷ put_in e xs)) ≡ suc (suc (length xs))) [
      | true ↦ refl
      | false ↦ ap suc (long_put e xs)
    ]

long_events : (p : ℕ) (js : List ℕ) (ks : List Kill) → length (events p js ks) ≡ length js + length ks
long_events p [] [] = refl
long_events p [] (k ∷ ks) = omega (arith, long_events p [] ks)
long_events p (e ∷ es) ks = omega (arith, long_put (join_at p e) (events (suc p) es ks), long_events (suc p) es ks)

-- a plan has an event for each kill and for each join
pub plan_long : (U : Given) → length (plan_of U) ≡ length U.kills + length U.joins
plan_long U = omega (arith, long_events U.places U.joins U.kills)

-- so it is less than the places of the opening and two for each join
pub plan_few : (U : Given) → Proper U → length (plan_of U) + 1 ≤ U.places + 2 * length U.joins
plan_few U proper =
    let some : 1 ≤ U.places = proper.some in
    let few : length U.kills + 1 ≤ in_all U = kills_fit U U.kills (omega arith) proper.kills in
    omega (arith, plan_long U, few)

-- What may come.

-- the place of the kill is there at its moment, where the joins make the places from p on
abbrev InTime : ℕ → List ℕ → Kill → Type 0
InTime p js k = (i e : ℕ) → slice_get js i ≡ Some e → k.place.0 ≡ p + i → e ≤ k.moment

-- kills of places that are there at their moments and are not 0, none twice
abbrev MayDie : ℕ → List ℕ → List Kill → Type 0
MayDie p js [] = Unit {0}
MayDie p js (k ∷ ks) = (k.place.0 < p + length js) × (k.place.0 ≢ 0) × InTime p js k × Spares k.place ks × MayDie p js ks

kills_may : (U : Given) (ks : List Kill) → AreKills U ks → MayDie U.places U.joins ks
kills_may U [] h = tt
kills_may U (k ∷ ks) h = (h.0, h.1, h.2, h.3, kills_may U ks h.5)

-- after a join the same holds
after_join : (p e : ℕ) (es : List ℕ) (ks : List Kill) → MayDie p (e ∷ es) ks → MayDie (suc p) es ks
after_join p e es [] h = tt
after_join p e es (k ∷ ks) h =
    (omega (arith, h.0), h.1, (λ i f get at. h.2 (suc i) f get (omega (arith, at))), h.3, after_join p e es ks h.4)

-- a place that no kill names dies nowhere in the plan
put_spares : (d : PlaceId) (p e : ℕ) (xs : List Event) → SparesIn d xs → SparesIn d (put_in (join_at p e) xs)
put_spares d p e [] h = ((λ same. cc), tt)
put_spares d p e (x ∷ xs) h =
    elim (nat_le e x.moment) as (λ b. SparesIn d (cond b (join_at p e ∷ x ∷ xs) (x ∷ put_in (join_at p e) xs))) [
      | true ↦ ((λ same. cc), h)
      | false ↦ (h.0, put_spares d p e xs h.1)
    ]

abbrev dying : Entry → ℕ
dying (Death d) = d.0
dying _ = 0

plan_spares : (d : PlaceId) (p : ℕ) (js : List ℕ) (ks : List Kill) → Spares d ks → SparesIn d (events p js ks)
plan_spares d p [] [] h = tt
plan_spares d p [] (k ∷ ks) h = ((λ same. h.0 (sym (ap dying same))), plan_spares d p [] ks h.1)
plan_spares d p (e ∷ es) ks h = put_spares d p e (events (suc p) es ks) (plan_spares d (suc p) es ks h)

-- no join is before the least
join_from : (low : ℕ) (js : List ℕ) (i e : ℕ) → AreJoins low js → slice_get js i ≡ Some e → low ≤ e
join_from low [] i e h get = cc
join_from low (f ∷ fs) zero e h get = let same : f ≡ e = cc in let le : low ≤ f = h.0 in omega arith
join_from low (f ∷ fs) (suc i) e h get = let le : low ≤ f = h.0 in omega (arith, join_from f fs i e h.1 get)

-- a kill before all joins is of a place that is there
is_there : (low p : ℕ) (js : List ℕ) (k : Kill) → AreJoins low js → k.moment < low → k.place.0 < p + length js → InTime p js k → k.place.0 < p
is_there low p js k h lt within time = ⊎_elim (λ a. a) (λ (ge : p ≤ k.place.0). absurd (late ge)) (cases_lt k.place.0 p)
  where
    late : p ≤ k.place.0 → ⊥
    late ge =
        let at = get-within js (k.place.0 - p) (omega arith) in
        let no_less : low ≤ at.0 = join_from low js (k.place.0 - p) at.0 h at.1 in
        let in_time : at.0 ≤ k.moment = time (k.place.0 - p) at.0 at.1 (omega arith) in
        omega arith

deaths_come : (p : ℕ) (ks : List Kill) → MayDie p [] ks → MayCome p p [] (events p [] ks)
deaths_come p [] h = refl
deaths_come p (k ∷ ks) h = ((omega (arith, h.0), h.1, refl, plan_spares k.place p [] ks h.3), deaths_come p ks h.4)

events_come : (low p : ℕ) (js : List ℕ) (ks : List Kill) → AreJoins low js → MayDie p js ks → MayCome (p + length js) p [] (events p js ks)
events_come low p [] ks h may = let z : p ≡ p + 0 = omega arith in subst (λ n. MayCome n p [] (events p [] ks)) z (deaths_come p ks may)
events_come low p (e ∷ es) ks h may = inner ks may (λ all now. events_come e (suc p) es all h.1 now)
  where
    join : (all : List Kill) → NotBefore e (events p [] all) → MayCome (suc p + length es) (suc p) [] (events (suc p) es all) → MayCome (p + length (e ∷ es)) p [] (events p (e ∷ es) all)
    join all none rest =
        let z : suc p + length es ≡ p + length (e ∷ es) = omega arith in
        subst (λ xs. MayCome (p + length (e ∷ es)) p [] xs) (sym (starts-join low p e es all h none))
        (refl, subst (λ n. MayCome n (suc p) [] (events (suc p) es all)) z rest)

    inner : (all : List Kill) → MayDie p (e ∷ es) all → ((all : List Kill) → MayDie (suc p) es all → MayCome (suc p + length es) (suc p) [] (events (suc p) es all))
        → MayCome (p + length (e ∷ es)) p [] (events p (e ∷ es) all)
    inner [] now later = join [] tt (later [] tt)
    inner (k ∷ all) now later =
        ⊎_elim
        (λ (lt : k.moment < e).
        subst (λ xs. MayCome (p + length (e ∷ es)) p [] xs) (sym (starts-death e p (e ∷ es) k all (omega arith, h.1) lt))
        ((is_there e p (e ∷ es) k (omega arith, h.1) lt now.0 now.2, now.1, refl, plan_spares k.place p (e ∷ es) all now.3), inner all now.4 later))
        (λ (ge : e ≤ k.moment). join (k ∷ all) ge (later (k ∷ all) (after_join p e es (k ∷ all) now)))
        (cases_lt k.moment e)

-- all that a proper setup plans may come from the opening on
pub plan_comes : (U : Given) → Proper U → MayCome (in_all U) U.places [] (plan_of U)
plan_comes U proper = events_come 0 U.places U.joins U.kills proper.joins (kills_may U U.kills proper.kills)
