-- The marks of the pass over the entries on the events.
use Rattle.std.proofs.Common.{◌≡◌, ℕ, zero, suc, ◌+◌, ◌-◌, ◌<◌, ◌≤◌, Bool, true, false, cond, List, [], ◌∷◌, ◌++◌, length, take, drop, Option, Some, None, ◌⊎◌, slice_get, refl, ap, sym, subst, ◌∙◌, arith, ⊎_elim}
use Rattle.std.specs.List.{filter_map, cons_option}
use Rattle.std.proofs.lemmas.Bool.{eq-eqb}
use Rattle.std.proofs.lemmas.List.{take-append-drop, length-append}
use Rattle.std.proofs.lemmas.List.Elements.{filter_map-append}
use Rattle.rx_rules.proofs.Common.{PlaceId, Fault, Block, opening, births, Player, Cells, Moves, Starts, Birth, Tells, cell_of, move_of, journal_at, birth_of, moves_from, travels, Given, Term, Vars, Answer, begins, Done as Ends}
use Rattle.rx_rules.specs.declared.entries.Act.{Act}
use Rattle.rx_rules.specs.declared.entries.Act.TheVariants.{Open, At as Calls, Spawn, Arrive, Wait, Release, End, Print, Census}
use Rattle.rx_rules.specs.declared.entries.Entry.{Entry}
use Rattle.rx_rules.specs.declared.events.Cell.{Cell}
use Rattle.rx_rules.specs.declared.events.PlaceEvent.{PlaceEvent}
use Rattle.rx_rules.specs.declared.events.PlaceEvent.TheVariants.{Done}
use Rattle.rx_runs.specs.AnyAnswers.{AsksStore}
use Rattle.rx_runs.specs.Games.{fresh}
use Rattle.rx_verdict.specs.Makes.{MakesEvent, Made, StampRule, KeepsRule, Landing, TaskMakesEvent, cells_of}
use Rattle.rx_verdict.specs.Marks.{after, low_of, home_of, StandsAt, WholePass, EntriesToCome, AwayEvent}
use Rattle.rx_verdict.specs.Verdicts.{IsMade, CauseOf, HasCause, events_before}
use Rattle.rx_verdict.specs.Walks.{Walks, next_does, Halts, AsksLedger}
use Rattle.rx_verdict.proofs.Once.{landing_map, made_once}
use Rattle.rx_verdict.proofs.Passing.{Widens, walks_wider}
use Rattle.rx_verdict.proofs.Shown.{get_take, allowed_take, birth_take, made_first}
use Rattle.rx_verdict.proofs.Telling.{EventFrom, event_from_player, at_store, no_event_more}
use Rattle.std.proofs.lemmas.Option.{slice_get_within}

-- Numbers of events.

pub counted : (t : ℕ) (j : List PlaceEvent) (e : ℕ) → length (filter_map (cell_of t) j) ≡ events_before t j e + length (filter_map (cell_of t) (drop e j))
counted t j e =
    let parts : filter_map (cell_of t) j ≡ filter_map (cell_of t) (take e j) ++ filter_map (cell_of t) (drop e j) = ap (λ (k : List PlaceEvent). filter_map (cell_of t) k) (sym (take-append-drop e j)) ∙ filter_map-append (cell_of t) (take e j) (drop e j) in
    ap (λ (k : Cells). length k) parts ∙ length-append (filter_map (cell_of t) (take e j)) (filter_map (cell_of t) (drop e j))

more_with : (o : Option (ℕ × Cell × List ℕ)) (n : ℕ) (m : Cells) → n ≤ length m → n ≤ length (cons_option o m)
more_with None n m le = le
more_with (Some c) n m le = omega (arith, le)

fewer : (t : ℕ) (j : List PlaceEvent) (d : ℕ) → length (filter_map (cell_of t) (drop d j)) ≤ length (filter_map (cell_of t) j)
fewer t j zero = omega arith
fewer t [] (suc d) = omega arith
fewer t (x ∷ j) (suc d) = more_with (cell_of t x) (length (filter_map (cell_of t) (drop d j))) (filter_map (cell_of t) j) (fewer t j d)

-- there are no more of a task's events from a later number on
pub later : (t : ℕ) (j : List PlaceEvent) (q e : ℕ) → q ≤ e → length (filter_map (cell_of t) (drop e j)) ≤ length (filter_map (cell_of t) (drop q j))
later t j zero e le = fewer t j e
later t [] (suc q) e le = fewer t [] e
later t (x ∷ j) (suc q) zero le = absurd (omega arith)
later t (x ∷ j) (suc q) (suc e) le = later t j q e (omega arith)

-- the events from one of the task's on
from_here : (t : ℕ) (j : List PlaceEvent) (e stamp : ℕ) (cell : Cell) (x : List ℕ) → slice_get j e ≡ Some (Done (record { 0 = t }) stamp cell x) → filter_map (cell_of t) (drop e j) ≡ (stamp, cell, x) ∷ filter_map (cell_of t) (drop (suc e) j)
from_here t [] e stamp cell x h = absurd (let f : ⊥ = cc in f)
from_here t (y ∷ j) zero stamp cell x h =
    let same : y ≡ Done (record { 0 = t }) stamp cell x = cc in
    ap (λ (v : PlaceEvent). cons_option (cell_of t v) (filter_map (cell_of t) j)) same ∙ ap (λ (b : Bool). cons_option (cond b (Some (stamp, cell, x)) None) (filter_map (cell_of t) j)) (eq-eqb t t refl)
from_here t (y ∷ j) (suc e) stamp cell x h = from_here t j e stamp cell x h

-- The entries of a task, before and after a moment.

cons_front : (o : Option (ℕ × Act × List (List ℕ))) (m k : Moves) → cons_option o (m ++ k) ≡ cons_option o m ++ k
cons_front None m k = refl
cons_front (Some x) m k = refl

moves_cut : (n i : ℕ) (es : List Entry) (c : ℕ) → moves_from n es c ≡ moves_from n (take i es) c ++ moves_from (n + i) (drop i es) c
moves_cut n zero es c = let z : n ≡ n + 0 = omega arith in ap (λ (k : ℕ). moves_from k es c) z
moves_cut n (suc i) [] c = refl
moves_cut n (suc i) (e ∷ es) c =
    let z : suc n + i ≡ n + suc i = omega arith in
    let rest : moves_from (suc n) es c ≡ moves_from (suc n) (take i es) c ++ moves_from (n + suc i) (drop i es) c = moves_cut (suc n) i es c ∙ ap (λ (k : ℕ). moves_from (suc n) (take i es) c ++ moves_from k (drop i es) c) z in
    one n e (moves_from (suc n) es c) (moves_from (suc n) (take i es) c) (moves_from (n + suc i) (drop i es) c) rest where
      one : (n : ℕ) (e : Entry) (all some more : Moves) → all ≡ some ++ more → cons_option (move_of n c e) all ≡ cons_option (move_of n c e) some ++ more
      one n e all some more h = ap (λ (m : Moves). cons_option (move_of n c e) m) h ∙ cons_front (move_of n c e) some more

-- Events after a landing, from where the walk came to.

module _ (rule : StampRule) (starts : Starts) (here : PlaceId) (s : Term × Vars) (cells : Cells) (z : Player) (left : Cells) (more : Moves) where
  abbrev Each : ℕ → ℕ → Moves → Type 0
  Each k low moves = MakesEvent rule starts here low s.1 s.0 [] cells moves k

  abbrev Cut : Bool → ℕ → Moves → Type 0
  Cut y low moves =
      (c : ℕ) × (length cells ≡ c + length left) × ((k : ℕ) → EventFrom rule starts here (after low moves) z left more k → Landing (Each (c + k)) ⊥ y low (moves ++ more))
      × ((k : ℕ) → Landing (Each (c + k)) ⊥ y low (moves ++ more) → EventFrom rule starts here (after low moves) z left more k)

  pub landing_event : (y : Bool) (low : ℕ) (moves : Moves) → Landing (λ low moves. Walks starts here (fresh s) cells moves z left) ⊥ y low moves → Cut y low moves
  landing_event false low moves h = let r = event_from_player rule starts here low (fresh s) z cells left moves h in (r.0, r.1, λ k m. r.2 more k m, λ k m. r.3 more k m)
  landing_event true low [] h = absurd h
  landing_event true low ((n, Arrive p, batch) ∷ moves) h =
      let r = event_from_player rule starts here (suc n) (fresh s) z cells left moves h.1 in (r.0, r.1, λ k m. (h.0, r.2 more k m), λ k m. r.3 more k m.1)
  landing_event true low ((n, Open q r x, batch) ∷ moves) h = absurd h
  landing_event true low ((n, Calls f g q r c x, batch) ∷ moves) h = absurd h
  landing_event true low ((n, Spawn c q f g x, batch) ∷ moves) h = absurd h
  landing_event true low ((n, Wait q thrown, batch) ∷ moves) h = absurd h
  landing_event true low ((n, Release q lost masked thrown, batch) ∷ moves) h = absurd h
  landing_event true low ((n, End thrown, batch) ∷ moves) h = absurd h
  landing_event true low ((n, Print value x, batch) ∷ moves) h = absurd h
  landing_event true low ((n, Census count x, batch) ∷ moves) h = absurd h

-- A task that stands somewhere after i entries, and the whole history.
module _ (rule : StampRule) (code : Block) (U : Given) (es : List Entry) (js : List (List PlaceEvent)) (i t : ℕ) (z : Player) (left : Cells) (w : WholePass code U es js) (g : StandsAt code U.places es js i t z left) where
  abbrev first : List Entry
  first = take i es

  abbrev home : PlaceId
  home = home_of first t

  low_t : t < 1 + births first
  low_t = let l : t < length g.starts = slice_get_within g.starts t g.start g.begins in let k : length g.starts ≡ 1 + births first = g.made.all in omega (arith, l, k)

  birth : birth_of first t ≡ birth_of es t
  birth = birth_take 0 (opening U.places) es i w.allowed t low_t

  -- whatever the terms of all tasks are
  module _ (others : Starts) (m : Made code U.places es js others) where
    same : g.starts ≡ take (1 + births first) others
    same = made_once code U.places first js w.some w.few (allowed_take 0 (opening U.places) es i w.allowed) g.starts (take (1 + births first) others) g.made (made_first code U.places es js others m w.allowed i)

    wider : Widens g.starts others
    wider c x e =
        let all : length g.starts ≡ 1 + births first = g.made.all in
        let l : c < length g.starts = slice_get_within g.starts c x e in
        sym (get_take others (1 + births first) c (omega (arith, all, l))) ∙ ap (λ (v : Starts). slice_get v c) (sym same) ∙ e

    start : slice_get others t ≡ Some g.start
    start = wider t g.start g.begins

    walk : Landing (λ low moves. Walks others home (fresh g.start) (cells_of first js t) moves z left) ⊥ (travels (birth_of first t)) (birth_of first t).low (moves_from 0 first t)
    walk = landing_map (λ low moves. Walks g.starts home (fresh g.start) (cells_of first js t) moves z left) (λ low moves. Walks g.starts home (fresh g.start) (cells_of first js t) moves z left) (λ low moves. Walks others home (fresh g.start) (cells_of first js t) moves z left) ⊥ ⊥ ⊥ (λ low moves a b. walks_wider g.starts others wider home a) (λ a b. a) (travels (birth_of first t)) (birth_of first t).low (moves_from 0 first t) g.seat g.seat

    cut : Cut rule others home g.start (cells_of first js t) z left (moves_from i (drop i es) t) (travels (birth_of first t)) (birth_of first t).low (moves_from 0 first t)
    cut = landing_event rule others home g.start (cells_of first js t) z left (moves_from i (drop i es) t) (travels (birth_of first t)) (birth_of first t).low (moves_from 0 first t) walk

    -- it makes an event in the whole history exactly where it does so after the landing among the first entries
    abbrev Says : ℕ → Birth × Moves → Type 0
    Says k v = Landing (λ low moves. MakesEvent rule others v.0.to low g.start.1 g.start.0 [] (filter_map (cell_of t) (journal_at js v.0.to.0)) moves k) ⊥ (travels v.0) v.0.low v.1

    pair : ◌≡◌ {A = Birth × Moves} (birth_of first t, moves_from 0 first t ++ moves_from i (drop i es) t) (birth_of es t, moves_from 0 es t)
    pair = let z : 0 + i ≡ i = omega arith in let moves : moves_from 0 first t ++ moves_from i (drop i es) t ≡ moves_from 0 es t = ap (λ (k : ℕ). moves_from 0 first t ++ moves_from k (drop i es) t) (sym z) ∙ sym (moves_cut 0 i es t) in λ j. (birth j, moves j)

    pub used : ℕ
    used = cut.0

    pub size : length (cells_of first js t) ≡ used + length left
    unfolding used
    size = cut.1

    pub to_task : (k : ℕ) → EventFrom rule others home (low_of first t) z left (moves_from i (drop i es) t) k → TaskMakesEvent rule others es js t g.start (used + k)
    unfolding used
    to_task k h = subst (Says (cut.0 + k)) pair (cut.2 k h)

    pub of_task : (k : ℕ) → TaskMakesEvent rule others es js t g.start (used + k) → EventFrom rule others home (low_of first t) z left (moves_from i (drop i es) t) k
    unfolding used
    of_task k h = cut.3 k (subst (Says (cut.0 + k)) (sym pair) h)

  home_is : home.0 ≡ (birth_of es t).to.0
  home_is = ap (λ (b : Birth). b.to.0) birth

  born : t < 1 + births es
  born =
      let l : t < length w.starts = slice_get_within w.starts t g.start (start w.starts w.made) in
      let k : length w.starts ≡ 1 + births es = w.made.all in
      omega (arith, l, k)

  pub is_made : (k : ℕ) → TaskMakesEvent rule w.starts es js t g.start k → IsMade rule code U es js home.0 t k
  is_made k h =
      record { born = born; home = sym home_is; starts = w.starts; made = w.made; start = g.start; begins = start w.starts w.made; event = h }

  pub is_task : (p k : ℕ) (m : IsMade rule code U es js p t k) → TaskMakesEvent rule m.starts es js t g.start k
  is_task p k m =
      let one : slice_get m.starts t ≡ Some m.start = m.begins in
      let two : slice_get m.starts t ≡ Some g.start = start m.starts m.made in
      let same : m.start ≡ g.start = cc (one, two) in
      subst (λ (v : Term × Vars). TaskMakesEvent rule m.starts es js t v k) same m.event

first_to_come : (m : ℕ) (es : List Entry) (n t : ℕ) (e : Entry) → slice_get es n ≡ Some e → moves_from (m + n) (drop n es) t ≡ cons_option (move_of (m + n) t e) (moves_from (suc (m + n)) (drop (suc n) es) t)
first_to_come m [] n t e h = absurd (let f : ⊥ = cc in f)
first_to_come m (x ∷ es) zero t e h = let same : x ≡ e = cc in ap (λ (v : Entry). cons_option (move_of (m + 0) t v) (moves_from (suc (m + 0)) es t)) same
first_to_come m (x ∷ es) (suc n) t e h =
    let z : suc m + n ≡ m + suc n = omega arith in
    subst (λ (k : ℕ). moves_from k (drop n es) t ≡ cons_option (move_of k t e) (moves_from (suc k) (drop (suc n) es) t)) z (first_to_come (suc m) es n t e h)

none_to_come : (k : ℕ) (es : List Entry) (n t : ℕ) → length es ≤ n → moves_from k (drop n es) t ≡ []
none_to_come k [] zero t le = refl
none_to_come k [] (suc n) t le = refl
none_to_come k (x ∷ es) zero t le = absurd (omega arith)
none_to_come k (x ∷ es) (suc n) t le = none_to_come k es n t (omega arith)

pub entries_to_come : EntriesToCome
entries_to_come es n t = (
  λ e h. let z : 0 + n ≡ n = omega arith in subst (λ (k : ℕ). moves_from k (drop n es) t ≡ cons_option (move_of k t e) (moves_from (suc k) (drop (suc n) es) t)) z (first_to_come 0 es n t e h),
  λ le. none_to_come n es n t le,
)

-- the first event that is left stands at number e of the journal of the task's place, and answers the store call at z
pub record Uses (es : List Entry) (js : List (List PlaceEvent)) (i t : ℕ) (z : Player) (e stamp : ℕ) (cell : Cell) (path : List ℕ) (left : Cells) : Type 0 where
  pub here : slice_get (journal_at js (home_of (take i es) t).0) e ≡ Some (Done (record { 0 = t }) stamp cell path)
  pub rest : filter_map (cell_of t) (drop (suc e) (journal_at js (home_of (take i es) t).0)) ≡ left
  pub answer : Answer
  pub tells : Tells (next_does (home_of (take i es) t) z) (home_of (take i es) t) cell answer
  pub begins : begins z.term ≡ Some path

-- An event that a task has used, after i entries, has its cause exactly where its stamp keeps the rule between the task's entries
-- before and after that moment.
pub used_event : (rule : StampRule) (code : Block) (U : Given) (es : List Entry) (js : List (List PlaceEvent)) (i t e stamp : ℕ) (z : Player) (cell : Cell) (path : List ℕ) (left : Cells) → WholePass code U es js → StandsAt code U.places es js i t z ((stamp, cell, path) ∷ left) → Uses es js i t z e stamp cell path left → (KeepsRule rule (low_of (take i es) t) stamp (moves_from i (drop i es) t) → HasCause rule code U es js (home_of (take i es) t).0 e) × (HasCause rule code U es js (home_of (take i es) t).0 e → KeepsRule rule (low_of (take i es) t) stamp (moves_from i (drop i es) t))
used_event rule code U es js i t e stamp z cell path left w g u = (
  λ keeps.
      let more : Moves = moves_from i (drop i es) t in
      let home : PlaceId = home_of (take i es) t in
      let all : Cells = (stamp, cell, path) ∷ left in
      let from : EventFrom rule w.starts home (low_of (take i es) t) z all more 0 = (at_store rule w.starts home (low_of (take i es) t) z left stamp cell path more u.answer u.tells u.begins).0 keeps in
      let made : TaskMakesEvent rule w.starts es js t g.start (used rule code U es js i t z all w g w.starts w.made + 0) = to_task rule code U es js i t z all w g w.starts w.made 0 from in
      let count = number w.starts w.made in
      subst (λ (o : Option PlaceEvent). CauseOf rule code U es js home.0 e o) (sym u.here)
      (is_made rule code U es js i t z all w g (events_before t (journal_at js home.0) e) (subst (λ (k : ℕ). TaskMakesEvent rule w.starts es js t g.start k) (sym count) made)),
  λ h.
      let more : Moves = moves_from i (drop i es) t in
      let home : PlaceId = home_of (take i es) t in
      let all : Cells = (stamp, cell, path) ∷ left in
      let m : IsMade rule code U es js home.0 t (events_before t (journal_at js home.0) e) = subst (λ (o : Option PlaceEvent). CauseOf rule code U es js home.0 e o) u.here h in
      let made : TaskMakesEvent rule m.starts es js t g.start (events_before t (journal_at js home.0) e) = is_task rule code U es js i t z all w g home.0 (events_before t (journal_at js home.0) e) m in
      let from : EventFrom rule m.starts home (low_of (take i es) t) z all more 0 = of_task rule code U es js i t z all w g m.starts m.made 0 (subst (λ (k : ℕ). TaskMakesEvent rule m.starts es js t g.start k) (number m.starts m.made) made) in
      (at_store rule m.starts home (low_of (take i es) t) z left stamp cell path more u.answer u.tells u.begins).1 from,
)
  where
    number : (others : Starts) (m : Made code U.places es js others) → events_before t (journal_at js (home_of (take i es) t).0) e ≡ used rule code U es js i t z ((stamp, cell, path) ∷ left) w g others m + 0
    number others m =
        let j : List PlaceEvent = journal_at js (home_of (take i es) t).0 in
        let sum = counted t j e in
        let here : length (filter_map (cell_of t) (drop e j)) ≡ suc (length left) = ap (λ (k : Cells). length k) (from_here t j e stamp cell path u.here) ∙ ap (λ (k : Cells). suc (length k)) u.rest in
        let all : length (filter_map (cell_of t) j) ≡ used rule code U es js i t z ((stamp, cell, path) ∷ left) w g others m + suc (length left) = size rule code U es js i t z ((stamp, cell, path) ∷ left) w g others m in
        omega (arith, sum, here, all)

-- the player goes on no more: its term is done, its store call has no event that answers it, or it waits for the ledger and has no
-- entry to come
abbrev pub IsStuck : List Entry → ℕ → ℕ → Player → Cells → Type 0
IsStuck es i t z left =
    ((faults : List Fault) × (next_does (home_of (take i es) t) z ≡ Ends faults))
    ⊎ ((AsksStore (next_does (home_of (take i es) t) z) × Halts (home_of (take i es) t) z left)
    ⊎ (AsksLedger (next_does (home_of (take i es) t) z) × (moves_from i (drop i es) t ≡ [])))

-- where a task goes on no more and its events from number q of the journal on are left, none of these has its cause
pub left_event : (rule : StampRule) (code : Block) (U : Given) (es : List Entry) (js : List (List PlaceEvent)) (i t p q e stamp : ℕ) (z : Player) (cell : Cell) (path : List ℕ) (left : Cells) → WholePass code U es js → StandsAt code U.places es js i t z left → IsStuck es i t z left → filter_map (cell_of t) (drop q (journal_at js (home_of (take i es) t).0)) ≡ left → q ≤ e → slice_get (journal_at js p) e ≡ Some (Done (record { 0 = t }) stamp cell path) → HasCause rule code U es js p e → ⊥
left_event rule code U es js i t p q e stamp z cell path left w g stuck rest le at h =
    let m : IsMade rule code U es js p t (events_before t (journal_at js p) e) = subst (λ (o : Option PlaceEvent). CauseOf rule code U es js p e o) at h in
    let home : PlaceId = home_of (take i es) t in
    let here : p ≡ home.0 = sym m.home ∙ sym (home_is rule code U es js i t z left w g) in
    let j : List PlaceEvent = journal_at js p in
    let before : ℕ = events_before t j e in
    let c : ℕ = used rule code U es js i t z left w g m.starts m.made in
    let all : length (filter_map (cell_of t) j) ≡ c + length left = ap (λ (k : ℕ). length (filter_map (cell_of t) (journal_at js k))) here ∙ size rule code U es js i t z left w g m.starts m.made in
    let sum : length (filter_map (cell_of t) j) ≡ before + length (filter_map (cell_of t) (drop e j)) = counted t j e in
    let few : length (filter_map (cell_of t) (drop e j)) ≤ length (filter_map (cell_of t) (drop q j)) = later t j q e le in
    let from_q : length (filter_map (cell_of t) (drop q j)) ≡ length left = ap (λ (k : ℕ). length (filter_map (cell_of t) (drop q (journal_at js k)))) here ∙ ap (λ (k : Cells). length k) rest in
    let made : TaskMakesEvent rule m.starts es js t g.start before = is_task rule code U es js i t z left w g p before m in
    let past : before ≡ c + (before - c) = omega (arith, all, sum, few, from_q) in
    let from : EventFrom rule m.starts home (low_of (take i es) t) z left (moves_from i (drop i es) t) (before - c) = of_task rule code U es js i t z left w g m.starts m.made (before - c) (subst (λ (k : ℕ). TaskMakesEvent rule m.starts es js t g.start k) past made) in
    let none = no_event_more rule m.starts home (low_of (take i es) t) z left (moves_from i (drop i es) t) (before - c) from in
    ⊎_elim (λ (d : (faults : List Fault) × (next_does home z ≡ Ends faults)). none.0 d.0 d.1)
    (⊎_elim (λ (d : AsksStore (next_does home z) × Halts home z left). none.1 d.0 d.1)
    (λ (d : AsksLedger (next_does home z) × (moves_from i (drop i es) t ≡ [])). none.2 d.0 d.1)) stuck

pub away_event : AwayEvent
away_event rule code U es js t p e stamp cell path away at h =
    let m : IsMade rule code U es js p t (events_before t (journal_at js p) e) = subst (λ (o : Option PlaceEvent). CauseOf rule code U es js p e o) at h in
    subst (λ (v : Bool × Moves). Landing (λ low moves. MakesEvent rule m.starts (birth_of es t).to low m.start.1 m.start.0 [] (cells_of es js t) moves (events_before t (journal_at js p) e)) ⊥ v.0 (birth_of es t).low v.1) {x = (travels (birth_of es t), moves_from 0 es t)} {y = (true, [])} (λ j. (away.0 j, away.1 j)) m.event
