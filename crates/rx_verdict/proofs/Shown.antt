-- Of a whole run the verdict is `run`.
use Rattle.std.proofs.Common.{◌≡◌, ◌⊎◌, ℕ, zero, suc, ◌+◌, ◌<◌, ◌≤◌, ◌==◌, Bool, true, false, cond, List, [], ◌∷◌, ◌++◌, length, take, Option, Some, None, slice_get, refl, ap, sym, subst, ◌∙◌, arith, inl, inr, ⊎_elim}
use Rattle.std.specs.List.{filter_map, cons_option}
use Rattle.std.proofs.lemmas.Bool.{cases_lt, cases_eq}
use Rattle.std.proofs.lemmas.List.Sums.{sum_by-cons}
use Rattle.rx_rules.proofs.Common.{PlaceId, TaskId, Block, Term, Vars, child, Tree, made, made_act, AllAllowed, opening, births, births_of, Cells, Moves, Starts, Plays, BeginsWithArrival, EachPlays, Birth, StartsSo, cell_of, journal_at, birth_of, birth_from, travels, moves_from, started_by, opening_state, Given, in_all, Event, plan_of, PlanKept, rest_of, EndsWithRoot, JournalOk, death_number, IsRun}
use Rattle.rx_rules.specs.declared.entries.Act.{Act}
use Rattle.rx_rules.specs.declared.entries.Act.TheVariants.{Open, At as Calls, Spawn, Arrive, Wait, Release, End, Print, Census}
use Rattle.rx_rules.specs.declared.entries.Entry.{Entry}
use Rattle.rx_rules.specs.declared.entries.Entry.TheVariants.{Step, Root, Death, Join}
use Rattle.rx_rules.specs.declared.events.PlaceEvent.{PlaceEvent}
use Rattle.rx_rules.specs.declared.events.PlaceEvent.TheVariants.{Done, Close}
use Rattle.rx_rules.proofs.Numbers.{next-made}
use Rattle.rx_tree_laws.proofs.Births.{from-other, from-here, births-left, born_before}
use Rattle.rx_runs.specs.Rooted.{RootIsLast}
use Rattle.rx_runs.proofs.RootLast.{root_last-ends}
use Rattle.rx_verdict.specs.declared.verdict.Verdict.TheVariants.{Run}
use Rattle.rx_verdict.specs.Makes as parts
use Rattle.rx_verdict.specs.Makes.{Makes, MakesEvent, Between, Landing, Made, TaskMakes, TaskMakesEvent, EachMakes, cells_of}
use Rattle.rx_verdict.specs.Verdicts.{Part, IsGood, CauseOf, HasCause, AllGood, IsVerdict, RunIsVerdict, events_before}
use Rattle.rx_verdict.proofs.Stamps.{cause_any}
use Rattle.rx_verdict.proofs.Replays.{plays_make, plays_event}
use Rattle.rx_verdict.proofs.Births.{Has, StartsTask, starts, other_none, other_some, newborn}
use Rattle.rx_verdict.proofs.Once.{landing_map, made_at}
use Rattle.rx_verdict.proofs.Journals.{store_take, rising_take, home_at, count_below, shut_of, close_is, journals_at}
use Rattle.std.proofs.lemmas.Option.{slice_get_past, slice_get_within}
use Rattle.rx_base.proofs.Elements.{get-within}
use Rattle.rx_runs.proofs.Pairs.{journal_got}
use Rattle.rx_kills.proofs.Dying.{length-front}

-- Beginnings of a list of entries.

pub take_none : {X : Type 0} (i : ℕ) → take {A = X} i [] ≡ []
take_none zero = refl
take_none (suc i) = refl

pub allowed_take : (n : ℕ) (T : Tree) (es : List Entry) (i : ℕ) → AllAllowed n T es → AllAllowed n T (take i es)
allowed_take n T es zero a = tt
allowed_take n T [] (suc i) a = tt
allowed_take n T (e ∷ es) (suc i) a = (a.0, allowed_take (suc n) (made n T e) es i a.1)

pub plan_take : (n : ℕ) (ks : List Event) (es : List Entry) (i : ℕ) → PlanKept n ks es → PlanKept n ks (take i es)
plan_take n ks es zero h = tt
plan_take n ks [] (suc i) h = tt
plan_take n ks (Death d ∷ es) (suc i) h = (h.0, plan_take (suc n) (rest_of ks) es i h.1)
plan_take n ks (Join d ∷ es) (suc i) h = (h.0, plan_take (suc n) (rest_of ks) es i h.1)
plan_take n ks (Step t act batch ∷ es) (suc i) h = (h.0, plan_take (suc n) ks es i h.1)
plan_take n ks (Root lost masked thrown ∷ es) (suc i) h = (h.0, plan_take (suc n) ks es i h.1)

pub rooted_begins : (es : List Entry) (i : ℕ) → RootIsLast es → RootIsLast (take i es)
rooted_begins es zero h = tt
rooted_begins [] (suc i) h = tt
rooted_begins (Step t act batch ∷ es) (suc i) h = rooted_begins es i h
rooted_begins (Root lost masked thrown ∷ []) (suc i) h = take_none i
rooted_begins (Root lost masked thrown ∷ x ∷ es) (suc i) h = absurd (let f : ⊥ = cc in f)
rooted_begins (Death d ∷ es) (suc i) h = rooted_begins es i h
rooted_begins (Join d ∷ es) (suc i) h = rooted_begins es i h

rooted_take : (es : List Entry) (i : ℕ) → EndsWithRoot es → RootIsLast (take i es)
rooted_take es i h = rooted_begins es i (root_last-ends es h)

births_take : (es : List Entry) (i : ℕ) → births (take i es) ≤ births es
births_take es zero = let none : births [] ≡ 0 = refl in omega (arith, none)
births_take [] (suc i) = omega arith
births_take (e ∷ es) (suc i) =
    let one : births (e ∷ take i es) ≡ births_of e + births (take i es) = sum_by-cons births_of e (take i es) in
    let two : births (e ∷ es) ≡ births_of e + births es = sum_by-cons births_of e es in
    let rest = births_take es i in
    omega (arith, one, two, rest)

-- a task that was born among the first entries has its birth there
pub birth_take : (n : ℕ) (T : Tree) (es : List Entry) (i : ℕ) → AllAllowed n T es → (c : ℕ) → c < T.next_task + births (take i es) → birth_from n (take i es) c ≡ birth_from n es c
birth_take n T es zero a c l = let none : births [] ≡ 0 = refl in sym (born_before n T es a c (omega (arith, none)))
birth_take n T [] (suc i) a c l = refl
birth_take n T (Root lost masked thrown ∷ es) (suc i) a c l =
    birth_take (suc n) (made n T (Root lost masked thrown)) es i a.1 c (let sum = births-left n T (Root lost masked thrown) (take i es) in omega (arith, sum))
birth_take n T (Death d ∷ es) (suc i) a c l =
    birth_take (suc n) (made n T (Death d)) es i a.1 c (let sum = births-left n T (Death d) (take i es) in omega (arith, sum))
birth_take n T (Join d ∷ es) (suc i) a c l =
    birth_take (suc n) (made n T (Join d)) es i a.1 c (let sum = births-left n T (Join d) (take i es) in omega (arith, sum))
birth_take n T (Step t act batch ∷ es) (suc i) a c l =
    let sum = births-left n T (Step t act batch) (take i es) in
    let rest = birth_take (suc n) (made_act T t act) es i a.1 c (omega (arith, sum)) in
    ⊎_elim
    (λ (s : (d : TaskId) × (started_by act ≡ Some d) × (d.0 ≡ T.next_task) × (births_of (Step t act batch) ≡ 1)).
    ⊎_elim
    (λ (same : s.0.0 ≡ c).
    let b = newborn n t act batch s.0 s.1 in
    subst (λ (z : ℕ). birth_from n (Step t act batch ∷ take i es) z ≡ birth_from n (Step t act batch ∷ es) z) same
    (from-here n t act batch (take i es) s.0.0 b.0 b.1 ∙ sym (from-here n t act batch es s.0.0 b.0 b.1)))
    (λ (ne : s.0.0 ≡ c → ⊥).
    from-other n c t act batch (take i es) (other_some act c s.0 s.1 ne) ∙ rest ∙ sym (from-other n c t act batch es (other_some act c s.0 s.1 ne)))
    (cases_eq s.0.0 c))
    (λ (s : (started_by act ≡ None) × (births_of (Step t act batch) ≡ 0)).
    from-other n c t act batch (take i es) (other_none act c s.0) ∙ rest ∙ sym (from-other n c t act batch es (other_none act c s.0)))
    (starts T t act batch a.0)

-- the entries of a task among the first ones begin all its entries
moves_take : (n : ℕ) (es : List Entry) (i c : ℕ) → (more : Moves) × (moves_from n es c ≡ moves_from n (take i es) c ++ more)
moves_take n es zero c = (moves_from n es c, refl)
moves_take n [] (suc i) c = ([], refl)
moves_take n (Root lost masked thrown ∷ es) (suc i) c = moves_take (suc n) es i c
moves_take n (Death d ∷ es) (suc i) c = moves_take (suc n) es i c
moves_take n (Join d ∷ es) (suc i) c = moves_take (suc n) es i c
moves_take n (Step t act batch ∷ es) (suc i) c = let r = moves_take (suc n) es i c in (r.0, moves_cons n act batch (moves_from (suc n) es c) (moves_from (suc n) (take i es) c) r.0 r.1 (t.0 == c)) where
  moves_cons : (n : ℕ) (act : Act) (batch : List (List ℕ)) (all some more : Moves) → all ≡ some ++ more → (b : Bool) → cons_option (cond b (Some (n, act, batch)) None) all ≡ cons_option (cond b (Some (n, act, batch)) None) some ++ more
  moves_cons n act batch all some more e true = ap (λ (v : Moves). (n, act, batch) ∷ v) e
  moves_cons n act batch all some more e false = e

-- the tasks that entries start were born among them
has_cases : (c u n : ℕ) (t : TaskId) (act : Act) (batch : List (List ℕ)) (moves : Moves) (b : Bool) → Has c (cons_option (cond b (Some (n, act, batch)) None) moves) → StartsTask act c ⊎ Has c moves
has_cases c u n t act batch moves true h = h
has_cases c u n t act batch moves false h = inr h

has_below : (n : ℕ) (T : Tree) (es : List Entry) → AllAllowed n T es → (u c : ℕ) → Has c (moves_from n es u) → c < T.next_task + births es
has_below n T [] a u c h = absurd h
has_below n T (Root lost masked thrown ∷ es) a u c h =
    let r = has_below (suc n) (made n T (Root lost masked thrown)) es a.1 u c h in let sum = births-left n T (Root lost masked thrown) es in omega (arith, sum, r)
has_below n T (Death d ∷ es) a u c h =
    let r = has_below (suc n) (made n T (Death d)) es a.1 u c h in let sum = births-left n T (Death d) es in omega (arith, sum, r)
has_below n T (Join d ∷ es) a u c h =
    let r = has_below (suc n) (made n T (Join d)) es a.1 u c h in let sum = births-left n T (Join d) es in omega (arith, sum, r)
has_below n T (Step t act batch ∷ es) a u c h =
    let sum = births-left n T (Step t act batch) es in
    let next : (made_act T t act).next_task ≡ T.next_task + births_of (Step t act batch) = next-made n T (Step t act batch) in
    ⊎_elim
    (λ (s : StartsTask act c).
    ⊎_elim
    (λ (r : (d : TaskId) × (started_by act ≡ Some d) × (d.0 ≡ T.next_task) × (births_of (Step t act batch) ≡ 1)).
    let same : r.0 ≡ s.0 = (let e = r.1 in let f = s.1 in cc (e, f)) in
    let one : r.0.0 ≡ c = ap (λ (z : TaskId). z.0) same ∙ s.2 in
    let k : births_of (Step t act batch) ≡ 1 = r.3 in
    let d : r.0.0 ≡ T.next_task = r.2 in
    omega (arith, sum, next, one, k, d))
    (λ (r : (started_by act ≡ None) × (births_of (Step t act batch) ≡ 0)). absurd (let e = r.0 in let f = s.1 in let g : ⊥ = cc (e, f) in g))
    (starts T t act batch a.0))
    (λ (m : Has c (moves_from (suc n) es u)). let r = has_below (suc n) (made_act T t act) es a.1 u c m in omega (arith, sum, r))
    (has_cases c u n t act batch (moves_from (suc n) es u) (t.0 == u) h)

-- A task makes the first of its entries too, over a list of starts that says the same of those whom they start.

pub starts_same : (from to : Starts) (t : Term) (vars : Vars) (act : Act) → ((c : ℕ) → StartsTask act c → slice_get to c ≡ slice_get from c) → StartsSo from t vars act → StartsSo to t vars act
starts_same from to t vars act same so = by_start (started_by act) refl so where
  by_start : (o : Option TaskId) → started_by act ≡ o → elim (started_by act) as (λ _. Type 0) [ Some c ↦ slice_get from c.0 ≡ Some (child t, vars) | None ↦ Unit {0} ] → elim (started_by act) as (λ _. Type 0) [ Some c ↦ slice_get to c.0 ≡ Some (child t, vars) | None ↦ Unit {0} ]
  by_start (Some c) e h =
      let one : slice_get from c.0 ≡ Some (child t, vars) = subst (λ (o : Option TaskId). elim o as (λ _. Type 0) [ Some d ↦ slice_get from d.0 ≡ Some (child t, vars) | None ↦ Unit {0} ]) e h in
      subst (λ (o : Option TaskId). elim o as (λ _. Type 0) [ Some d ↦ slice_get to d.0 ≡ Some (child t, vars) | None ↦ Unit {0} ]) (sym e) (same c.0 (c, e, refl) ∙ one)
  by_start None e h = subst (λ (o : Option TaskId). elim o as (λ _. Type 0) [ Some d ↦ slice_get to d.0 ≡ Some (child t, vars) | None ↦ Unit {0} ]) (sym e) tt

module _ (from to : Starts) (here : PlaceId) where
  first_makes : {vars : Vars} {t : Term} {batch : List (List ℕ)} {cells rest : Cells} {moves : Moves} → Makes from here vars t batch cells moves rest → (some more : Moves) → moves ≡ some ++ more → ((c : ℕ) → Has c some → slice_get to c ≡ slice_get from c) → (left : Cells) × Makes to here vars t batch cells some left
  first_makes (parts.Makes.local g m) some more e same = let r = first_makes m some more e same in (r.0, parts.Makes.local g r.1)
  first_makes (parts.Makes.stores a tells b m) some more e same = let r = first_makes m some more e same in (r.0, parts.Makes.stores a tells b r.1)
  first_makes (parts.Makes.asks {cells = cells} fits so m) [] more e same = (cells, parts.stops)
  first_makes (parts.Makes.asks {vars = vars} {t = t} {batch = batch} {cells = cells} {moves = moves} {n = n} {act = act} fits so m) (x ∷ some) more e same =
      let one : ◌≡◌ {A = ℕ × Act × List (List ℕ)} (n, act, batch) x = cc in
      let tail : moves ≡ some ++ more = cc in
      let is : act ≡ x.1 = ap (λ (v : ℕ × Act × List (List ℕ)). v.1) one in
      let r = first_makes m some more tail (λ c h. same c (inr h)) in (
        r.0,
        subst (λ (v : ℕ × Act × List (List ℕ)). Makes to here vars t batch cells (v ∷ some) r.0) one
            (parts.Makes.asks fits (starts_same from to t vars act (λ c s. same c (inl (subst (λ (v : Act). StartsTask v c) is s))) so) r.1),
      )
  first_makes (parts.ends {cells = cells} g) [] more e same = (cells, parts.stops)
  first_makes (parts.ends {vars = vars} {t = t} {batch = batch} {cells = cells} {n = n} {faults = faults} g) (x ∷ []) more e same =
      let one : ◌≡◌ {A = ℕ × Act × List (List ℕ)} (n, End faults, batch) x = cc in
      (cells, subst (λ (v : ℕ × Act × List (List ℕ)). Makes to here vars t batch cells (v ∷ []) cells) one (parts.ends g))
  first_makes (parts.ends g) (x ∷ y ∷ some) more e same = absurd (let f : ⊥ = cc in f)
  first_makes (parts.stops {cells = cells}) [] more e same = (cells, parts.stops)
  first_makes parts.stops (x ∷ some) more e same = absurd (let f : ⊥ = cc in f)

landing_first : (from to : Starts) (here : PlaceId) (s : Term × Vars) (cells : Cells) (b : Bool) (low : ℕ) (moves some more : Moves) → moves ≡ some ++ more → ((c : ℕ) → Has c some → slice_get to c ≡ slice_get from c) → Landing (λ low moves. (rest : Cells) × Makes from here s.1 s.0 [] cells moves rest) (Unit {0}) b low moves → Landing (λ low moves. (rest : Cells) × Makes to here s.1 s.0 [] cells moves rest) (Unit {0}) b low some
landing_first from to here s cells false low moves some more e same h = first_makes from to here h.1 some more e same
landing_first from to here s cells true low moves [] more e same h = tt
landing_first from to here s cells true low [] (x ∷ some) more e same h = absurd (let f : ⊥ = cc in f)
landing_first from to here s cells true low ((n, Arrive p, batch) ∷ moves) ((m, act, other) ∷ some) more e same h =
    let one : ◌≡◌ {A = ℕ × Act × List (List ℕ)} (n, Arrive p, batch) (m, act, other) = cc in
    let tail : moves ≡ some ++ more = cc in
    let r = first_makes from to here h.1.1 some more tail (λ c k. same c (inr k)) in
    subst (λ (v : ℕ × Act × List (List ℕ)). Landing (λ low moves. (rest : Cells) × Makes to here s.1 s.0 [] cells moves rest) (Unit {0}) true low (v ∷ some)) one (h.0, r)
landing_first from to here s cells true low ((n, Open q k x, batch) ∷ moves) (y ∷ some) more e same h = absurd h
landing_first from to here s cells true low ((n, Calls f g q k c x, batch) ∷ moves) (y ∷ some) more e same h = absurd h
landing_first from to here s cells true low ((n, Spawn c q f g x, batch) ∷ moves) (y ∷ some) more e same h = absurd h
landing_first from to here s cells true low ((n, Wait q thrown, batch) ∷ moves) (y ∷ some) more e same h = absurd h
landing_first from to here s cells true low ((n, Release q lost masked thrown, batch) ∷ moves) (y ∷ some) more e same h = absurd h
landing_first from to here s cells true low ((n, End thrown, batch) ∷ moves) (y ∷ some) more e same h = absurd h
landing_first from to here s cells true low ((n, Print value x, batch) ∷ moves) (y ∷ some) more e same h = absurd h
landing_first from to here s cells true low ((n, Census count x, batch) ∷ moves) (y ∷ some) more e same h = absurd h

-- Lists of starts.

pub get_take : {X : Type 0} (xs : List X) (n i : ℕ) → i < n → slice_get (take n xs) i ≡ slice_get xs i
get_take xs zero i l = absurd (omega arith)
get_take [] (suc n) i l = refl
get_take (x ∷ xs) (suc n) zero l = refl
get_take (x ∷ xs) (suc n) (suc i) l = get_take xs n i (omega arith)

pub each_makes : (starts : Starts) (es : List Entry) (js : List (List PlaceEvent)) (n : ℕ) (more : Starts) → ((i : ℕ) (s : Term × Vars) → slice_get more i ≡ Some s → TaskMakes starts es js (n + i) s) → EachMakes starts es js n more
each_makes starts es js n [] h = tt
each_makes starts es js n (s ∷ more) h =
    let at : n + 0 ≡ n = omega arith in (
      subst (λ (z : ℕ). TaskMakes starts es js z s) at (h 0 s refl),
      each_makes starts es js (suc n) more (λ i r e. let next : n + suc i ≡ suc n + i = omega arith in subst (λ (z : ℕ). TaskMakes starts es js z r) next (h (suc i) r e)),
    )

-- What is played is made.

begins_to : (starts : Starts) (here : PlaceId) (b : Bool) (low : ℕ) (vars : Vars) (t : Term) (cells : Cells) (moves : Moves) → BeginsWithArrival starts here b low vars t cells moves → Landing (λ low moves. Plays starts here low vars t [] cells moves) (cells ≡ []) b low moves
begins_to starts here false low vars t cells moves h = h
begins_to starts here true low vars t cells [] h = h
begins_to starts here true low vars t cells ((n, Arrive p, batch) ∷ moves) h = h
begins_to starts here true low vars t cells ((n, Open s k x, batch) ∷ moves) h = absurd h
begins_to starts here true low vars t cells ((n, Calls from to s k c x, batch) ∷ moves) h = absurd h
begins_to starts here true low vars t cells ((n, Spawn c s from to x, batch) ∷ moves) h = absurd h
begins_to starts here true low vars t cells ((n, Wait s thrown, batch) ∷ moves) h = absurd h
begins_to starts here true low vars t cells ((n, Release s lost masked thrown, batch) ∷ moves) h = absurd h
begins_to starts here true low vars t cells ((n, End thrown, batch) ∷ moves) h = absurd h
begins_to starts here true low vars t cells ((n, Print value x, batch) ∷ moves) h = absurd h
begins_to starts here true low vars t cells ((n, Census count x, batch) ∷ moves) h = absurd h

begins_at : (starts : Starts) (es : List Entry) (js : List (List PlaceEvent)) (n : ℕ) (more : Starts) → EachPlays starts es js n more → (i : ℕ) (s : Term × Vars) → slice_get more i ≡ Some s → BeginsWithArrival starts (birth_of es (n + i)).to (travels (birth_of es (n + i))) (birth_of es (n + i)).low s.1 s.0 (cells_of es js (n + i)) (moves_from 0 es (n + i))
begins_at starts es js n [] h i s e = absurd (let f : ⊥ = cc in f)
begins_at starts es js n (x ∷ more) h zero s e =
    let same : x ≡ s = cc in
    let at : n + 0 ≡ n = omega arith in
    subst (λ (z : ℕ × (Term × Vars)). BeginsWithArrival starts (birth_of es z.0).to (travels (birth_of es z.0)) (birth_of es z.0).low z.1.1 z.1.0 (cells_of es js z.0) (moves_from 0 es z.0)) {x = (n, x)} {y = (n + 0, s)} (λ j. (sym at j, same j)) h.0
begins_at starts es js n (x ∷ more) h (suc i) s e =
    let at : suc n + i ≡ n + suc i = omega arith in
    subst (λ (z : ℕ). BeginsWithArrival starts (birth_of es z).to (travels (birth_of es z)) (birth_of es z).low s.1 s.0 (cells_of es js z) (moves_from 0 es z)) at (begins_at starts es js (suc n) more h.1 i s e)

-- The first n entries are made too, by the terms of the tasks that are born among them.
module _ (code : Block) (q : ℕ) (es : List Entry) (js : List (List PlaceEvent)) (starting : Starts) (h : Made code q es js starting) (allowed : AllAllowed 0 (opening q) es) (n : ℕ) where
  abbrev first : List Entry
  first = take n es

  abbrev born : Starts
  born = take (1 + births first) starting

  few_born : 1 + births first ≤ length starting
  few_born = let all : length starting ≡ 1 + births es = h.all in let le = births_take es n in omega (arith, all, le)

  kept : (c : ℕ) → c < 1 + births first → slice_get born c ≡ slice_get starting c
  kept c l = get_take starting (1 + births first) c l

  first_task : (t : ℕ) (s : Term × Vars) → slice_get born t ≡ Some s → TaskMakes born first js t s
  first_task t s e =
      let size : length born ≡ 1 + births first = length-front starting (1 + births first) few_born in
      let in_born : t < length born = slice_get_within born t s e in
      let low : t < 1 + births first = omega (arith, size, in_born) in
      let fine : AllAllowed 0 (opening q) first = allowed_take 0 (opening q) es n allowed in
      let birth : birth_of first t ≡ birth_of es t = birth_take 0 (opening q) es n allowed t low in
      let cut = moves_take 0 es n t in
      let b : Birth = birth_of es t in
      subst (λ (z : Birth). Landing (λ low moves. (rest : Cells) × Makes born z.to s.1 s.0 [] (filter_map (cell_of t) (journal_at js z.to.0)) moves rest) (Unit {0}) (travels z) z.low (moves_from 0 first t)) (sym birth)
      (landing_first starting born b.to s (cells_of es js t) (travels b) b.low (moves_from 0 es t) (moves_from 0 first t) cut.0 cut.1 (λ c k. kept c (has_below 0 (opening q) first fine t c k)) (made_at code q es js starting h t s (sym (kept t low) ∙ e)))

  pub made_first : Made code q first js born
  made_first =
      record {
        main = kept 0 (omega arith) ∙ h.main;
        all = length-front starting (1 + births first) few_born;
        each = each_makes born first js 0 born (λ i s e. let at : i ≡ 0 + i = omega arith in subst (λ (z : ℕ). TaskMakes born first js z s) at (first_task i s e));
      }

module _ (code : Block) (U : Given) (es : List Entry) (js : List (List PlaceEvent)) (r : IsRun code U es js) where
  abbrev starting : Starts
  starting = r.played.starts

  abbrev TaskPlays : ℕ → Term × Vars → Type 0
  TaskPlays t s = Landing (λ low moves. Plays starting (birth_of es t).to low s.1 s.0 [] (cells_of es js t) moves) (cells_of es js t ≡ []) (travels (birth_of es t)) (birth_of es t).low (moves_from 0 es t)

  plays : (t : ℕ) (s : Term × Vars) → slice_get starting t ≡ Some s → TaskPlays t s
  plays t s e =
      let at : 0 + t ≡ t = omega arith in
      begins_to starting (birth_of es t).to (travels (birth_of es t)) (birth_of es t).low s.1 s.0 (cells_of es js t) (moves_from 0 es t)
      (subst (λ (z : ℕ). BeginsWithArrival starting (birth_of es z).to (travels (birth_of es z)) (birth_of es z).low s.1 s.0 (cells_of es js z) (moves_from 0 es z)) at (begins_at starting es js 0 starting r.played.each t s e))

  makes : (t : ℕ) (s : Term × Vars) → slice_get starting t ≡ Some s → TaskMakes starting es js t s
  makes t s e =
      let h : TaskPlays t s = plays t s e in
      landing_map (λ low moves. Plays starting (birth_of es t).to low s.1 s.0 [] (cells_of es js t) moves) (λ low moves. Plays starting (birth_of es t).to low s.1 s.0 [] (cells_of es js t) moves)
      (λ low moves. (rest : Cells) × Makes starting (birth_of es t).to s.1 s.0 [] (cells_of es js t) moves rest)
      (cells_of es js t ≡ []) (cells_of es js t ≡ []) (Unit {0}) (λ low moves a b. ([], plays_make a)) (λ a b. tt) (travels (birth_of es t)) (birth_of es t).low (moves_from 0 es t) h h

  makes_event : (t : ℕ) (s : Term × Vars) → slice_get starting t ≡ Some s → (k : ℕ) → k < length (cells_of es js t) → TaskMakesEvent Between starting es js t s k
  makes_event t s e k low_k =
      let h : TaskPlays t s = plays t s e in
      landing_map (λ low moves. Plays starting (birth_of es t).to low s.1 s.0 [] (cells_of es js t) moves) (λ low moves. Plays starting (birth_of es t).to low s.1 s.0 [] (cells_of es js t) moves)
      (λ low moves. MakesEvent Between starting (birth_of es t).to low s.1 s.0 [] (cells_of es js t) moves k)
      (cells_of es js t ≡ []) (cells_of es js t ≡ []) ⊥ (λ low moves a b. plays_event a low (omega arith) k low_k) (λ a b. let none : length (cells_of es js t) ≡ 0 = ap (λ (c : Cells). length c) a in omega arith) (travels (birth_of es t)) (birth_of es t).low (moves_from 0 es t) h h

  whole_made : Made code U.places es js starting
  whole_made =
      record {
        main = r.played.main;
        all = r.played.all;
        each = each_makes starting es js 0 starting (λ i s e. let at : i ≡ 0 + i = omega arith in subst (λ (z : ℕ). TaskMakes starting es js z s) at (makes i s e));
      }

  pub part : (n : ℕ) → Part code U es js n
  part n =
      record {
        allowed = allowed_take 0 (opening U.places) es n r.folds.allowed;
        rooted = rooted_take es n r.ends;
        plan = plan_take 0 (plan_of U) es n r.folds.plan;
        starts = take (1 + births (take n es)) starting;
        made = made_first code U.places es js starting whole_made r.folds.allowed n;
      }

  -- the events
  journal : (p : ℕ) (j : List PlaceEvent) → slice_get js p ≡ Some j → JournalOk U es p j
  journal p j e = let at : 0 + p ≡ p = omega arith in subst (λ (z : ℕ). JournalOk U es z j) at (journals_at U es 0 js r.journals p j e)

  cause : (p e : ℕ) → JournalOk U es p (journal_at js p) → (x : PlaceEvent) → slice_get (journal_at js p) e ≡ Some x → CauseOf Between code U es js p e (Some x)
  cause p e ok (Done u stamp cell x) at =
      let home = home_at es p (journal_at js p) e u stamp cell x ok.homes at in
      let all : length starting ≡ 1 + births es = r.played.all in
      let born : u.0 < 1 + births es = home.0 in
      let s = get-within starting u.0 (omega arith) in
      let count : events_before u.0 (journal_at js p) e < length (filter_map (cell_of u.0) (journal_at js p)) = count_below (journal_at js p) e u stamp cell x at in
      let count' : events_before u.0 (journal_at js p) e < length (cells_of es js u.0) = subst (λ (z : ℕ). events_before u.0 (journal_at js p) e < length (filter_map (cell_of u.0) (journal_at js z))) (sym home.1) count in
      record { born = born; home = home.1; starts = starting; made = whole_made; start = s.0; begins = s.1; event = makes_event u.0 s.0 s.1 (events_before u.0 (journal_at js p) e) count' }
  cause p e ok (Close s) at = close_is (death_number 0 (record { 0 = p }) es) (journal_at js p) e s ok.closed at

  journal_ok : (p : ℕ) → p < length js → JournalOk U es p (journal_at js p)
  journal_ok p low = let g = get-within js p low in subst (λ (j : List PlaceEvent). JournalOk U es p j) (sym (journal_got js p g.0 g.1)) (journal p g.0 g.1)

  has_cause : (p e : ℕ) → p < length js → e < length (journal_at js p) → HasCause Between code U es js p e
  has_cause p e low inside =
      let x = get-within (journal_at js p) e inside in
      subst (λ (o : Option PlaceEvent). CauseOf Between code U es js p e o) (sym x.1) (cause p e (journal_ok p low) x.0 x.1)

  good_at : (p e : ℕ) → p < length js → e < length (journal_at js p) → IsGood code U es js p e
  good_at p e low inside =
      let ok = journal_ok p low in
      record {
        law = store_take U.heap opening_state (journal_at js p) (suc e) ok.law;
        rising = rising_take 0 (journal_at js p) (suc e) ok.rising;
        stamps = λ f le any. has_cause p f low (omega (arith, le));
        cause = cause_any code U es js p e (has_cause p e low inside);
      }

  good : AllGood code U es js
  good p e inside =
      ⊎_elim (λ (low : p < length js). good_at p e low inside)
      (λ (past : length js ≤ p).
      let none : journal_at js p ≡ [] = ap (λ (o : Option (List PlaceEvent)). elim o as (λ _. List PlaceEvent) [ Some k ↦ k | None ↦ [] ]) (slice_get_past js p past) in
      let empty : length (journal_at js p) ≡ 0 = ap (λ (j : List PlaceEvent). length j) none in
      absurd (omega arith))
      (cases_lt p (length js))

  pub shown : IsVerdict code U es js Run
  shown = (
    λ n le. part n,
    r.ends,
    good,
    λ p low. let size : length js ≡ in_all U = r.one_each in shut_of (death_number 0 (record { 0 = p }) es) (journal_at js p) (journal_ok p (omega (arith, size, low))).closed,
  )

pub run_is_verdict : RunIsVerdict
run_is_verdict code U es js r = shown code U es js r
