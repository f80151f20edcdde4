-- Every whole run has parts.
use Rattle.std.proofs.Common.{◌≡◌, ℕ, zero, suc, ◌+◌, ◌<◌, ◌≤◌, true, List, [], ◌∷◌, ◌++◌, map, length, take, slice_get, Option, Some, None, refl, arith, ap, sym, ◌∙◌, subst, inl, append_assoc}
use Rattle.std.specs.List.{filter_map}
use Rattle.std.proofs.lemmas.List.{length-map, length-append}
use Rattle.std.proofs.lemmas.List.Elements.{filter_map-append}
use Rattle.std.proofs.lemmas.Bool.{eq-eqb}
use mathlib.Core.List.{IsPrefix}
use Rattle.rx_rules.proofs.Common.{PlaceId, TaskId, Block, Term, Vars, Empty, Answer, items, no_vars, does, begins, Tree, made, AllAllowed, births, births_of, opening, opens, Starts, Cells, Moves, Birth, Plays, BeginsWithArrival, EachPlays, Tells, birth_of, birth_from, travels, cell_of, journal_at, moves_from, State, IsStoreRun, after_cell, opening_state, Given, IsRun, PlanKept, plan_of, AllJournals, AtHome, NotFalling, ClosesAt, death_number, FromOn, events_of_task}
use Rattle.rx_rules.specs.declared.entries.Act.TheVariants.{Arrive}
use Rattle.rx_rules.specs.declared.entries.Entry.{Entry}
use Rattle.rx_rules.specs.declared.entries.Entry.TheVariants.{Root}
use Rattle.rx_rules.specs.declared.events.Cell.{Cell}
use Rattle.rx_rules.specs.declared.events.PlaceEvent.{PlaceEvent}
use Rattle.rx_rules.specs.declared.events.PlaceEvent.TheVariants.{Done as Did, Close}
use Rattle.rx_rules.specs.Plays as rules
use Rattle.rx_rules.proofs.Inverting.{cells_from_low}
use Rattle.rx_rules.proofs.Numbers.{next-made}
use Rattle.rx_tree_laws.proofs.Histories.{none_yet}
use Rattle.rx_runs.specs.Segments.{Stand}
use Rattle.rx_runs.proofs.Pairs.{journal_got}
use Rattle.rx_runs.proofs.RootLast.{root_last-ends}
use Rattle.rx_parts.specs.Ledger.{LedgerItem, Actor, Present, Walks, stays, local, stores, main_actor, AllMake, RootIsLast, LegalLedger, entries_of}
use Rattle.rx_parts.specs.Places.{MadeEvent, journal_of, MayMake, LegalFrom, last_carried}
use Rattle.rx_parts.specs.Parts.{EachPlace, journals_of, AllNamed}
use Rattle.rx_parts.specs.Closing.{ClosedBy, EachClosed}
use Rattle.rx_parts.proofs.Lists.{outside, got_right}
use Rattle.rx_parts.proofs.Tasks.{later}
use Rattle.rx_parts.proofs.Along.{numbered, birth_none}
use Rattle.rx_parts.proofs.Whole.{legal_birth, legal_later}
use Rattle.rx_parts.proofs.Prefixes.{prefix-legal}
use Rattle.rx_parts.proofs.Closing.{cells_same}
use Rattle.rx_parts_bounds.specs.Parting.{RunHasParts}
use Rattle.rx_parts_bounds.proofs.Telling.{RestOf, away, here, over, Below, NotBefore, Going, Now, Point, Points, moves_after, tell}

-- The start.

birth_first : (n k : ℕ) (T : Tree) (es : List Entry) → AllAllowed n T es → k < T.next_task → birth_from n es k ≡ birth_from 0 [] k
birth_first n k T [] a low = refl
birth_first n k T (e ∷ es) a low =
    let next : (made n T e).next_task ≡ T.next_task + births_of e = next-made n T e in
    ap (λ (o : Option Birth). elim o as (λ _. Birth) [ Some b ↦ b | None ↦ birth_from (suc n) es k ]) (birth_none n k T.next_task e (numbered T T.next_task e a.0 refl) (inl low))
    ∙ birth_first (suc n) k (made n T e) es a.1 (omega (arith, next, low))

plays_at : (starts : Starts) (es : List Entry) (js : List (List PlaceEvent)) (n : ℕ) (ss : Starts) (k : ℕ) (s : Term × Vars) → EachPlays starts es js n ss → slice_get ss k ≡ Some s → BeginsWithArrival starts (birth_of es (n + k)).to (travels (birth_of es (n + k))) (birth_of es (n + k)).low s.1 s.0 (filter_map (cell_of (n + k)) (journal_at js (birth_of es (n + k)).to.0)) (moves_from 0 es (n + k))
plays_at starts es js n [] k s h got = absurd (let f : ⊥ = cc in f)
plays_at starts es js n (v ∷ ss) zero s h got =
    let z : n + 0 ≡ n = omega arith in
    let it : v ≡ s = cc in
    subst (λ (i : ℕ). BeginsWithArrival starts (birth_of es i).to (travels (birth_of es i)) (birth_of es i).low s.1 s.0 (filter_map (cell_of i) (journal_at js (birth_of es i).to.0)) (moves_from 0 es i)) (sym z)
    (subst (λ (u : Term × Vars). BeginsWithArrival starts (birth_of es n).to (travels (birth_of es n)) (birth_of es n).low u.1 u.0 (filter_map (cell_of n) (journal_at js (birth_of es n).to.0)) (moves_from 0 es n)) it h.0)
plays_at starts es js n (v ∷ ss) (suc k) s h got =
    let e : n + suc k ≡ suc n + k = omega arith in
    subst (λ (i : ℕ). BeginsWithArrival starts (birth_of es i).to (travels (birth_of es i)) (birth_of es i).low s.1 s.0 (filter_map (cell_of i) (journal_at js (birth_of es i).to.0)) (moves_from 0 es i)) (sym e) (plays_at starts es js (suc n) ss k s h.1 got)

first_now : (code : Block) (U : Given) (es : List Entry) (js : List (List PlaceEvent)) (run : IsRun code U es js) → Now run.played.starts 0 (events_of_task es js) (main_actor code U.places ∷ []) (events_of_task es js) es
first_now code U es js run = record { going = going_first; unborn = λ k le. (λ s got. plays_as k s got, refl) } where
  plays_as : (k : ℕ) (s : Term × Vars) → slice_get run.played.starts k ≡ Some s → BeginsWithArrival run.played.starts (birth_of es k).to (travels (birth_of es k)) (birth_of es k).low s.1 s.0 (events_of_task es js k) (moves_from 0 es k)
  plays_as k s got =
      let z : 0 + k ≡ k = omega arith in
      subst (λ (i : ℕ). BeginsWithArrival run.played.starts (birth_of es i).to (travels (birth_of es i)) (birth_of es i).low s.1 s.0 (events_of_task es js i) (moves_from 0 es i)) z (plays_at run.played.starts es js 0 run.played.starts k s run.played.each got)

  main_plays : Plays run.played.starts (record { 0 = 0 }) 0 (no_vars U.places) (items code [] Empty) [] (events_of_task es js 0) (moves_from 0 es 0)
  main_plays =
      let b : birth_of es 0 ≡ birth_from 0 [] 0 = birth_first 0 0 (opening U.places) es run.folds.allowed (omega arith) in
      subst (λ (v : Birth). BeginsWithArrival run.played.starts v.to (travels v) v.low (no_vars U.places) (items code [] Empty) (events_of_task es js 0) (moves_from 0 es 0)) b (plays_as 0 (items code [] Empty, no_vars U.places) run.played.main)

  going_first : (k : ℕ) (a : Actor) → slice_get (main_actor code U.places ∷ []) k ≡ Some a → Going run.played.starts 0 0 (events_of_task es js k) a (events_of_task es js k) (moves_from 0 es k)
  going_first zero a got =
      let it : main_actor code U.places ≡ a = cc in
      subst (λ (v : Actor). Going run.played.starts 0 0 (events_of_task es js 0) v (events_of_task es js 0) (moves_from 0 es 0)) it
      (record { rest = here refl main_plays; parts = refl; low = omega arith; named = tt; ahead = moves_after 0 es 0; seat = refl; holder = refl })
  going_first (suc k) a got = absurd (let f : ⊥ = cc in f)

-- The points of a history.

points_lead : (starts : Starts) (whole : ℕ → Cells) (n : ℕ) (actors : List Actor) (h : List LedgerItem) (last : List Actor) → Points starts whole n actors h last → AllMake n actors h last
points_lead starts whole n actors [] last p = p.0
points_lead starts whole n actors (i ∷ h) last p = (p.1.0, p.1.1, points_lead starts whole (suc n) p.1.0 h last p.1.2)

pub record At (starts : Starts) (whole : ℕ → Cells) (n : ℕ) (actors : List Actor) (h : List LedgerItem) (r : ℕ) : Type 0 where
  pub mid : List Actor
  pub led : AllMake n actors (take r h) mid
  pub size : ℕ
  pub no_more : size ≤ n + r
  pub point : Point starts size (n + r) whole mid

point_at : (starts : Starts) (whole : ℕ → Cells) (n : ℕ) (actors : List Actor) (h : List LedgerItem) (last : List Actor) (r : ℕ) → Points starts whole n actors h last → At starts whole n actors h r
point_at starts whole n actors [] last zero p = record { mid = actors; led = refl; size = n; no_more = omega arith; point = p.1 (n + 0) }
point_at starts whole n actors [] last (suc r) p = record { mid = actors; led = refl; size = n; no_more = omega arith; point = p.1 (n + suc r) }
point_at starts whole n actors (i ∷ h) last zero p =
    let z : n + 0 ≡ n = omega arith in
    record { mid = actors; led = refl; size = n; no_more = omega arith; point = subst (λ (m : ℕ). Point starts n m whole actors) (sym z) p.0 }
point_at starts whole n actors (i ∷ h) last (suc r) p =
    let e : suc n + r ≡ n + suc r = omega arith in
    let w = point_at starts whole (suc n) p.1.0 h last r p.1.2 in
    record { mid = w.mid; led = (p.1.0, p.1.1, w.led); size = w.size; no_more = subst (λ (m : ℕ). w.size ≤ m) e w.no_more; point = subst (λ (m : ℕ). Point starts w.size m whole w.mid) e w.point }

point_end : (starts : Starts) (whole : ℕ → Cells) (n : ℕ) (actors : List Actor) (h : List LedgerItem) (last : List Actor) → Points starts whole n actors h last → (q : ℕ) × Point starts q q whole last
point_end starts whole n actors [] last p = (n, subst (λ (v : List Actor). Point starts n n whole v) p.0 (p.1 n))
point_end starts whole n actors (i ∷ h) last p = point_end starts whole (suc n) p.1.0 h last p.1.2

-- One event.

-- the walk of a task to an event that no entry of it stands before
pub record ToEvent (place : PlaceId) (a : Stand) (since : Cells) (cell : Cell) (x : List ℕ) : Type 0 where
  pub stand : Stand
  pub walks : Walks place a since stand
  pub answer : Answer
  pub tells : Tells (does stand.vars place.0 stand.term) place cell answer
  pub begins_so : begins stand.term ≡ Some x

from_at : (n : ℕ) (xs : Cells) (c : ℕ × Cell × List ℕ) (ys : Cells) → FromOn n (xs ++ c ∷ ys) → n ≤ c.0
from_at n [] c ys h = h.0
from_at n (x ∷ xs) c ys h = from_at n xs c ys h.1

walk_to : {starts : Starts} {place : PlaceId} {low : ℕ} {vars : Vars} {t : Term} {batch : List (List ℕ)} {cells : Cells} {moves : Moves} (since : Cells) (s : ℕ) (c : Cell) (x : List ℕ) (later : Cells) → Plays starts place low vars t batch cells moves → cells ≡ since ++ (s, c, x) ∷ later → NotBefore s moves → ToEvent place (record { low = low; vars = vars; term = t; batch = batch }) since c x
walk_to since s c x later (rules.local e p) h f =
    let r = walk_to since s c x later p h f in
    record { stand = r.stand; walks = local e r.walks; answer = r.answer; tells = r.tells; begins_so = r.begins_so }
walk_to {place = place} {vars = vars} {t = t} {batch = batch} [] s c x later (rules.stores {low = low} {stamp = stamp} {cell = cell} {x = y} a le tells b p) h f =
    let head : ◌≡◌ {A = ℕ × Cell × List ℕ} (stamp, cell, y) (s, c, x) = cc in
    let cells : cell ≡ c = ap (λ (m : ℕ × Cell × List ℕ). m.1) head in
    let paths : y ≡ x = ap (λ (m : ℕ × Cell × List ℕ). m.2) head in
    record { stand = record { low = low; vars = vars; term = t; batch = batch }; walks = stays; answer = a; tells = subst (λ (v : Cell). Tells (does vars place.0 t) place v a) cells tells; begins_so = b ∙ ap Some paths }
walk_to {place = place} {vars = vars} {t = t} {batch = batch} (d ∷ since) s c x later (rules.stores {low = low} {cells = rest} {stamp = stamp} {cell = cell} {x = y} a le tells b p) h f =
    let head : (stamp, cell, y) ≡ d = cc in
    let tail : rest ≡ since ++ (s, c, x) ∷ later = cc in
    let r = walk_to since s c x later p tail f in
    record { stand = r.stand; walks = subst (λ (v : ℕ × Cell × List ℕ). Walks place (record { low = low; vars = vars; term = t; batch = batch }) (v ∷ since) r.stand) head (stores a le tells b r.walks); answer = r.answer; tells = r.tells; begins_so = r.begins_so }
walk_to since s c x later (rules.asks {cells = rest} {n = n} le fits so p) h f =
    let after : FromOn (suc n) (since ++ (s, c, x) ∷ later) = subst (FromOn (suc n)) h (cells_from_low p) in
    let low : suc n ≤ s = from_at (suc n) since (s, c, x) later after in
    let high : s ≤ n = f in absurd (omega arith)
walk_to [] s c x later (rules.ends le e) h f = absurd (let g : ⊥ = cc in g)
walk_to (d ∷ since) s c x later (rules.ends le e) h f = absurd (let g : ⊥ = cc in g)
walk_to [] s c x later rules.stops h f = absurd (let g : ⊥ = cc in g)
walk_to (d ∷ since) s c x later rules.stops h f = absurd (let g : ⊥ = cc in g)

-- the events that were named before it are earlier ones
named_before : (n s : ℕ) (c : Cell) (x : List ℕ) (told cells before later : Cells) → n ≤ s → Below n told → told ++ cells ≡ before ++ (s, c, x) ∷ later → (since : Cells) × (before ≡ told ++ since) × (cells ≡ since ++ (s, c, x) ∷ later)
named_before n s c x [] cells before later le b h = (before, refl, h)
named_before n s c x (d ∷ told) cells [] later le b h =
    let head : d ≡ (s, c, x) = cc in
    let stamp : d.0 ≡ s = ap (λ (m : ℕ × Cell × List ℕ). m.0) head in
    let low : d.0 < n = b.0 in absurd (omega arith)
named_before n s c x (d ∷ told) cells (e ∷ before) later le b h =
    let head : d ≡ e = cc in
    let tail : told ++ cells ≡ before ++ (s, c, x) ∷ later = cc in
    let r = named_before n s c x told cells before later le b.1 tail in
    (r.0, ap (λ v. e ∷ v) r.1 ∙ ap (λ v. v ∷ (told ++ r.0)) (sym head), r.2)

-- who has yet to arrive has no event before it arrives
away_late : (starts : Starts) (place : PlaceId) (low : ℕ) (vars : Vars) (t : Term) (since : Cells) (s : ℕ) (c : Cell) (x : List ℕ) (later cells : Cells) (moves : Moves) → cells ≡ since ++ (s, c, x) ∷ later → NotBefore s moves → BeginsWithArrival starts place true low vars t cells moves → ⊥
away_late starts place low vars t [] s c x later cells [] e f h = let g : [] ≡ (s, c, x) ∷ later = sym h ∙ e in let j : ⊥ = cc in j
away_late starts place low vars t (d ∷ since) s c x later cells [] e f h = let g : [] ≡ d ∷ (since ++ (s, c, x) ∷ later) = sym h ∙ e in let j : ⊥ = cc in j
away_late starts place low vars t since s c x later cells ((q, Arrive p, batch) ∷ moves) e f h =
    let low_at : suc q ≤ s = from_at (suc q) since (s, c, x) later (subst (FromOn (suc q)) e (cells_from_low h.1)) in
    let high : s ≤ q = f in omega arith
away_late starts place low vars t since s c x later cells _ e f h = h

nothing_left : (since : Cells) (m : ℕ × Cell × List ℕ) (later cells : Cells) → cells ≡ since ++ m ∷ later → cells ≡ [] → ⊥
nothing_left [] m later cells e h = let g : [] ≡ m ∷ later = sym h ∙ e in let j : ⊥ = cc in j
nothing_left (d ∷ since) m later cells e h = let g : [] ≡ d ∷ (since ++ m ∷ later) = sym h ∙ e in let j : ⊥ = cc in j

take_drop : {X : Type 0} (r : ℕ) (xs : List X) → IsPrefix (take r xs) xs
take_drop zero xs = (xs, refl)
take_drop (suc r) [] = ([], refl)
take_drop (suc r) (x ∷ xs) = let w = take_drop r xs in (w.0, ap (λ v. x ∷ v) w.1)

take_more : {X : Type 0} (q r : ℕ) (xs : List X) → q ≤ r → IsPrefix (take q xs) (take r xs)
take_more zero r xs le = (take r xs, refl)
take_more (suc q) zero xs le = absurd (omega arith)
take_more (suc q) (suc r) [] le = ([], refl)
take_more (suc q) (suc r) (x ∷ xs) le = let w = take_more q r xs (omega arith) in (w.0, ap (λ v. x ∷ v) w.1)

-- the events of a journal, each with as much of the ledger's history as its stamp tells
abbrev pub deeds : List LedgerItem → List PlaceEvent → List MadeEvent
deeds h [] = []
deeds h (Did t s c x ∷ j) = record { by = []; task = t; stamp = s; cell = c; path = x; carried = take s h } ∷ deeds h j
deeds h (Close s ∷ j) = []

own_first : (t : TaskId) (s : ℕ) (c : Cell) (x : List ℕ) (j : List PlaceEvent) → filter_map (cell_of t.0) (Did t s c x ∷ j) ≡ (s, c, x) ∷ filter_map (cell_of t.0) j
own_first t s c x j = rw (eq-eqb t.0 t.0 refl) refl

-- All of a run.

module _ (code : Block) (U : Given) (es : List Entry) (js : List (List PlaceEvent)) (run : IsRun code U es js) (h : List LedgerItem) (last : List Actor) (whole_is : entries_of h ≡ es) (points : Points run.played.starts (events_of_task es js) 0 (main_actor code U.places ∷ []) h last) where
  abbrev legal : LegalLedger code U h
  legal =
      record {
        folds = record {
          some = run.folds.some;
          few = run.folds.few;
          allowed = subst (AllAllowed 0 (opening U.places)) (sym whole_is) run.folds.allowed;
          plan = subst (PlanKept 0 (plan_of U)) (sym whole_is) run.folds.plan;
        };
        last = subst RootIsLast (sym whole_is) (root_last-ends es run.ends);
        actors = last;
        made = points_lead run.played.starts (events_of_task es js) 0 (main_actor code U.places ∷ []) h last points;
      }

  abbrev part : (r : ℕ) (mid : List Actor) → AllMake 0 (main_actor code U.places ∷ []) (take r h) mid → LegalLedger code U (take r h)
  part r mid led =
      let d = take_drop r h in
      let p = prefix-legal code U (take r h) d.0 (subst (LegalLedger code U) (sym d.1) legal) in
      record { folds = p.folds; last = p.last; actors = mid; made = led }

  -- an event of a journal may come where it stands
  may_make : (p : ℕ) (before j : List PlaceEvent) (t : TaskId) (s : ℕ) (c : Cell) (x : List ℕ) → journal_at js p ≡ before ++ Did t s c x ∷ j → t.0 < 1 + births es → (birth_of es t.0).to.0 ≡ p → MayMake code U p before (record { by = []; task = t; stamp = s; cell = c; path = x; carried = take s h })
  may_make p before j t s c x journal born home = by_actor (slice_get at.mid t.0) refl where
    at : At run.played.starts (events_of_task es js) 0 (main_actor code U.places ∷ []) h s
    at = point_at run.played.starts (events_of_task es js) 0 (main_actor code U.places ∷ []) h last s points

    here_cells : events_of_task es js t.0 ≡ filter_map (cell_of t.0) before ++ (s, c, x) ∷ filter_map (cell_of t.0) j
    here_cells =
        ap (λ (q : ℕ). filter_map (cell_of t.0) (journal_at js q)) home
        ∙ ap (filter_map (cell_of t.0)) journal
        ∙ filter_map-append (cell_of t.0) before (Did t s c x ∷ j)
        ∙ ap (λ v. filter_map (cell_of t.0) before ++ v) (own_first t s c x j)

    z : 0 + s ≡ s
    z = omega arith

    with_actor : (a : Actor) → slice_get at.mid t.0 ≡ Some a → (cells : Cells) (moves : Moves) → Going run.played.starts at.size (0 + s) (events_of_task es js t.0) a cells moves → (r : (since : Cells) × (filter_map (cell_of t.0) before ≡ a.named ++ since) × (cells ≡ since ++ (s, c, x) ∷ filter_map (cell_of t.0) j)) → a.phase ≡ Present → ToEvent a.birth.to a.stand r.0 c x → MayMake code U p before (record { by = []; task = t; stamp = s; cell = c; path = x; carried = take s h })
    with_actor a got cells moves g r there to =
        let low : a.stand.low ≤ at.size = g.low in
        let few : at.size ≤ 0 + s = at.no_more in
        let on = legal_later code U (take s h) h (part s at.mid at.led) legal (take_drop s h) in
        let w = later (length (take s h)) at.mid (take_drop s h).0 last on t.0 a got in
        let born_so : birth_of (entries_of h) t.0 ≡ w.0.birth = legal_birth code U h legal t.0 w.0 w.1 in
        let place : a.birth.to.0 ≡ p = ap (λ (v : Birth). v.to.0) (sym w.2.birth ∙ sym born_so ∙ ap (λ v. birth_of v t.0) whole_is) ∙ home in
        record {
          legal = part s at.mid at.led;
          actor = a;
          stands = got;
          here = there;
          place = place;
          by = sym g.seat;
          since = r.0;
          earlier = r.1;
          stand = to.stand;
          walks = to.walks;
          answer = to.answer;
          tells = to.tells;
          begins = to.begins_so;
          above = omega (arith, low, few);
        }

    by_rest : (a : Actor) → slice_get at.mid t.0 ≡ Some a → (cells : Cells) (moves : Moves) → (g : Going run.played.starts at.size (0 + s) (events_of_task es js t.0) a cells moves) → (r : (since : Cells) × (filter_map (cell_of t.0) before ≡ a.named ++ since) × (cells ≡ since ++ (s, c, x) ∷ filter_map (cell_of t.0) j)) → NotBefore s moves → RestOf run.played.starts a cells moves → MayMake code U p before (record { by = []; task = t; stamp = s; cell = c; path = x; carried = take s h })
    by_rest a got cells moves g r ahead (away e f k) = absurd (away_late run.played.starts a.birth.to a.birth.low a.start.1 a.start.0 r.0 s c x (filter_map (cell_of t.0) j) cells moves r.2 ahead k)
    by_rest a got cells moves g r ahead (here e k) = with_actor a got cells moves g r e (walk_to r.0 s c x (filter_map (cell_of t.0) j) k r.2 ahead)
    by_rest a got cells moves g r ahead (over e none k) = absurd (nothing_left r.0 (s, c, x) (filter_map (cell_of t.0) j) cells r.2 none)

    by_actor : (o : Option Actor) → slice_get at.mid t.0 ≡ o → MayMake code U p before (record { by = []; task = t; stamp = s; cell = c; path = x; carried = take s h })
    by_actor None e =
        let all : length run.played.starts ≡ 1 + births es = run.played.all in
        let late : FromOn (suc (0 + s)) (events_of_task es js t.0) = at.point.unborn t.0 (outside at.mid t.0 e) (omega (arith, all, born)) in
        let low : suc (0 + s) ≤ s = from_at (suc (0 + s)) (filter_map (cell_of t.0) before) (s, c, x) (filter_map (cell_of t.0) j) (subst (FromOn (suc (0 + s))) here_cells late) in
        absurd (omega arith)
    by_actor (Some a) e =
        let g = at.point.going t.0 a e in
        let few : at.size ≤ 0 + s = at.no_more in
        let r = named_before at.size s c x a.named g.0 (filter_map (cell_of t.0) before) (filter_map (cell_of t.0) j) (omega (arith, few)) g.2.named (sym g.2.parts ∙ here_cells) in
        by_rest a e g.0 g.1 g.2 r (subst (λ (m : ℕ). NotBefore m g.1) z g.2.ahead) g.2.rest

  -- all events of a journal
  all_may : (p : ℕ) (before : List PlaceEvent) (low : ℕ) (j : List PlaceEvent) → journal_at js p ≡ before ++ j → NotFalling low j → AtHome es p j → LegalFrom code U p before low (take low h) (deeds h j)
  all_may p before low [] journal rising home = tt
  all_may p before low (Close s ∷ j) journal rising home = tt
  all_may p before low (Did t s c x ∷ j) journal rising home = (
    may_make p before j t s c x journal home.0 home.1,
    rising.0,
    take_more low s h rising.0,
    all_may p (before ++ Did t s c x ∷ []) s j (journal ∙ sym (append_assoc before (Did t s c x ∷ []) j)) rising.1 home.2,
  )

  seen_in : (low : ℕ) (j : List PlaceEvent) → IsPrefix (last_carried (take low h) (deeds h j)) h
  seen_in low [] = take_drop low h
  seen_in low (Close s ∷ j) = take_drop low h
  seen_in low (Did t s c x ∷ j) = seen_in s j

  -- all places
  all_places : (front : List (List PlaceEvent)) (p : ℕ) (rest : List (List PlaceEvent)) → js ≡ front ++ rest → length front ≡ p → AllJournals U es p rest → EachPlace code U h p (map (deeds h) rest)
  all_places front p [] e l a = tt
  all_places front p (j ∷ rest) e l a =
      let z : p ≡ length front + 0 = omega (arith, l) in
      let got : slice_get js p ≡ Some j = ap (λ v. slice_get v p) e ∙ ap (slice_get (front ++ j ∷ rest)) z ∙ got_right front (j ∷ rest) 0 in
      let size : length (front ++ j ∷ []) ≡ suc p = length-append front (j ∷ []) ∙ (let one : length front + 1 ≡ suc p = omega (arith, l) in one) in (
        all_may p [] 0 j (journal_got js p j got) a.0.rising a.0.homes,
        seen_in 0 j,
        all_places (front ++ j ∷ []) (suc p) rest (e ∙ sym (append_assoc front (j ∷ []) rest)) size a.1,
      )

  all_named : (ks : List (List MadeEvent)) → EachClosed U es 0 ks js → AllNamed last (journals_of ks)
  all_named ks closed n a got =
      let q = point_end run.played.starts (events_of_task es js) 0 (main_actor code U.places ∷ []) h last points in
      let g = q.1.going n a got in
      let born_so : birth_of es n ≡ a.birth = ap (λ v. birth_of v n) (sym whole_is) ∙ legal_birth code U h legal n a got in
      let cells : filter_map (cell_of n) (journal_at (journals_of ks) a.birth.to.0) ≡ events_of_task es js n = sym (cells_same U es 0 ks js closed a.birth.to.0 n) ∙ ap (λ (v : Birth). filter_map (cell_of n) (journal_at js v.to.0)) (sym born_so) in
      (g.0, sym (cells ∙ g.2.parts))

-- Closes.

stamped_by : (low n : ℕ) (k : List MadeEvent) → NotFalling low (journal_of k ++ Close n ∷ []) → low ≤ n
stamped_by low n [] h = h.0
stamped_by low n (m ∷ k) h = let r : m.stamp ≤ n = stamped_by m.stamp n k h.1 in let l : low ≤ m.stamp = h.0 in omega arith

closed_as : (h : List LedgerItem) (w : ℕ) (S : State) (low : ℕ) (o : Option ℕ) (j : List PlaceEvent) → IsStoreRun w S j → NotFalling low j → ClosesAt o j → ClosedBy o (deeds h j) j
closed_as h w S low None [] law rising closes = refl
closed_as h w S low (Some n) [] law rising closes = absurd (let f : ⊥ = cc in f)
closed_as h w S low None (Did t s c x ∷ j) law rising closes = ap (λ v. Did t s c x ∷ v) (closed_as h w (after_cell S c) s None j law.1 rising.1 closes)
closed_as h w S low (Some n) (Did t s c x ∷ j) law rising closes =
    let r = closed_as h w (after_cell S c) s (Some n) j law.1 rising.1 closes in
    (ap (λ v. Did t s c x ∷ v) r.0, (stamped_by s n (deeds h j) (subst (NotFalling s) r.0 rising.1), r.1))
closed_as h w S low None (Close s ∷ j) law rising closes = absurd (let f : ⊥ = cc in f)
closed_as h w S low (Some n) (Close s ∷ j) law rising closes =
    let it : s ≡ n = cc in
    (ap (λ v. Close s ∷ v) law ∙ ap (λ (v : ℕ). Close v ∷ []) it, tt)

all_closed : (U : Given) (es : List Entry) (h : List LedgerItem) (p : ℕ) (js : List (List PlaceEvent)) → AllJournals U es p js → EachClosed U es p (map (deeds h) js) js
all_closed U es h p [] a = tt
all_closed U es h p (j ∷ js) a = (closed_as h U.heap opening_state 0 (death_number 0 (record { 0 = p }) es) j a.0.law a.0.rising a.0.closed, a.0.law, all_closed U es h (suc p) js a.1)

pub run-has-parts : RunHasParts
run-has-parts code U es js run =
    let one : 1 + births es ≡ length (main_actor code U.places ∷ []) + births es = refl in
    let t = tell run.played.starts 0 (events_of_task es js) (opening U.places) (main_actor code U.places ∷ []) (events_of_task es js) es (opens U.places run.folds.some run.folds.few) none_yet run.folds.allowed refl (run.played.all ∙ one) (first_now code U es js run) in
    let closed : EachClosed U es 0 (map (deeds t.0) js) js = all_closed U es t.0 0 js run.journals in (
      t.0,
      map (deeds t.0) js,
      t.2,
      record {
        legal = legal code U es js run t.0 t.1 t.2 t.3;
        one_each = length-map js (deeds t.0) ∙ run.one_each;
        places = all_places code U es js run t.0 t.1 t.2 t.3 [] 0 js refl refl run.journals;
        named = all_named code U es js run t.0 t.1 t.2 t.3 (map (deeds t.0) js) closed;
      },
      closed,
    )
