-- Where the verdict is `run`, history and journals are a whole run.
use Rattle.std.proofs.Common.{◌≡◌, ℕ, zero, suc, ◌+◌, ◌<◌, ◌≤◌, Bool, true, false, List, [], ◌∷◌, length, take, Option, Some, slice_get, refl, ap, sym, subst, ◌∙◌, arith}
use Rattle.std.proofs.lemmas.List.{take_all}
use Rattle.rx_rules.proofs.Common.{PlaceId, TaskId, Block, Term, Vars, AllAllowed, opening, births, opens, Cells, Moves, Starts, Plays, BeginsWithArrival, EachPlays, Played, journal_at, birth_of, travels, moves_from, Birth, IsStoreRun, opening_state, Given, Proper, in_all, plan_of, PlanKept, NotFalling, JournalOk, death_number, IsRun}
use Rattle.rx_rules.specs.declared.entries.Act.TheVariants.{Open, At as Calls, Spawn, Arrive, Wait, Release, End, Print, Census}
use Rattle.rx_rules.specs.declared.entries.Entry.{Entry}
use Rattle.rx_rules.specs.declared.events.Cell.{Cell}
use Rattle.rx_rules.specs.declared.events.PlaceEvent.{PlaceEvent}
use Rattle.rx_rules.specs.declared.events.PlaceEvent.TheVariants.{Done, Close}
use Rattle.rx_tree_laws.proofs.Histories.{none_yet}
use Rattle.rx_verdict.specs.declared.verdict.Verdict.TheVariants.{Run}
use Rattle.rx_verdict.specs.Makes.{Makes, MakesEvent, Between, Landing, Made, TaskMakes, TaskMakesEvent, cells_of}
use Rattle.rx_verdict.specs.Verdicts.{Part, IsMade, IsGood, CauseOf, IsVerdict, VerdictIsRun, events_before}
use Rattle.rx_verdict.proofs.Replays.{Climbs, Rises, AllMade, parts_play}
use Rattle.rx_verdict.proofs.Births.{rises_from, rises_birth}
use Rattle.rx_verdict.proofs.Once.{landing_map, made_at, made_once}
use Rattle.rx_verdict.proofs.Journals.{climbs_of, Found, event_at, at_home, closes_at, all_journals}
use Rattle.std.proofs.lemmas.Option.{slice_get_within}
use Rattle.rx_tree_laws.proofs.Births.{born_before}
use Rattle.rx_runs.proofs.Pairs.{journal_got}

-- the entries that are left after landing rise too
landing_rises : (P : ℕ → Moves → Type 0) (A : Type 0) (b : Bool) (low : ℕ) (moves : Moves) → Landing P A b low moves → Rises low moves → Landing (λ low moves. Rises low moves) (Unit {0}) b low moves
landing_rises P A false low moves h r = r
landing_rises P A true low [] h r = tt
landing_rises P A true low ((n, Arrive p, batch) ∷ moves) h r = (h.0, r.1)
landing_rises P A true low ((n, Open s k x, batch) ∷ moves) h r = absurd h
landing_rises P A true low ((n, Calls from to s k c x, batch) ∷ moves) h r = absurd h
landing_rises P A true low ((n, Spawn c s from to x, batch) ∷ moves) h r = absurd h
landing_rises P A true low ((n, Wait s thrown, batch) ∷ moves) h r = absurd h
landing_rises P A true low ((n, Release s lost masked thrown, batch) ∷ moves) h r = absurd h
landing_rises P A true low ((n, End thrown, batch) ∷ moves) h r = absurd h
landing_rises P A true low ((n, Print value x, batch) ∷ moves) h r = absurd h
landing_rises P A true low ((n, Census count x, batch) ∷ moves) h r = absurd h

-- what holds of each of so many events
landing_each : (P : ℕ → Moves → Type 0) (A : Type 0) (E : ℕ → ℕ → Moves → Type 0) (size : ℕ) (b : Bool) (low : ℕ) (moves : Moves) → Landing P A b low moves → ((k : ℕ) → k < size → Landing (E k) ⊥ b low moves) → Landing (λ low moves. (k : ℕ) → k < size → E k low moves) (size ≡ 0) b low moves
landing_each P A E size false low moves h f = f
landing_each P A E zero true low [] h f = refl
landing_each P A E (suc size) true low [] h f = absurd (f 0 (omega arith))
landing_each P A E size true low ((n, Arrive p, batch) ∷ moves) h f = (h.0, λ k l. (f k l).1)
landing_each P A E size true low ((n, Open s k x, batch) ∷ moves) h f = absurd h
landing_each P A E size true low ((n, Calls from to s k c x, batch) ∷ moves) h f = absurd h
landing_each P A E size true low ((n, Spawn c s from to x, batch) ∷ moves) h f = absurd h
landing_each P A E size true low ((n, Wait s thrown, batch) ∷ moves) h f = absurd h
landing_each P A E size true low ((n, Release s lost masked thrown, batch) ∷ moves) h f = absurd h
landing_each P A E size true low ((n, End thrown, batch) ∷ moves) h f = absurd h
landing_each P A E size true low ((n, Print value x, batch) ∷ moves) h f = absurd h
landing_each P A E size true low ((n, Census count x, batch) ∷ moves) h f = absurd h

begins_from : (starts : Starts) (here : PlaceId) (b : Bool) (low : ℕ) (vars : Vars) (t : Term) (cells : Cells) (moves : Moves) → Landing (λ low moves. Plays starts here low vars t [] cells moves) (cells ≡ []) b low moves → BeginsWithArrival starts here b low vars t cells moves
begins_from starts here false low vars t cells moves h = h
begins_from starts here true low vars t cells [] h = h
begins_from starts here true low vars t cells ((n, Arrive p, batch) ∷ moves) h = h
begins_from starts here true low vars t cells ((n, Open s k x, batch) ∷ moves) h = absurd h
begins_from starts here true low vars t cells ((n, Calls from to s k c x, batch) ∷ moves) h = absurd h
begins_from starts here true low vars t cells ((n, Spawn c s from to x, batch) ∷ moves) h = absurd h
begins_from starts here true low vars t cells ((n, Wait s thrown, batch) ∷ moves) h = absurd h
begins_from starts here true low vars t cells ((n, Release s lost masked thrown, batch) ∷ moves) h = absurd h
begins_from starts here true low vars t cells ((n, End thrown, batch) ∷ moves) h = absurd h
begins_from starts here true low vars t cells ((n, Print value x, batch) ∷ moves) h = absurd h
begins_from starts here true low vars t cells ((n, Census count x, batch) ∷ moves) h = absurd h

no_cells : (cells : Cells) → length cells ≡ 0 → cells ≡ []
no_cells [] e = refl
no_cells (c ∷ cells) e = absurd (omega arith)

-- the entries of each task come after its birth
task_rises : (q : ℕ) (es : List Entry) → 1 ≤ q → q ≤ 16 → AllAllowed 0 (opening q) es → (t : ℕ) → Rises (birth_of es t).low (moves_from 0 es t)
task_rises q es some few a zero =
    subst (λ (b : Birth). Rises b.low (moves_from 0 es 0)) (sym (born_before 0 (opening q) es a 0 (omega arith))) (rises_from 0 es 0)
task_rises q es some few a (suc t) = rises_birth 0 (opening q) es (opens q some few) none_yet a (suc t) (omega arith)

each_plays : (starts : Starts) (es : List Entry) (js : List (List PlaceEvent)) (n : ℕ) (more : Starts) → ((i : ℕ) (s : Term × Vars) → slice_get more i ≡ Some s → BeginsWithArrival starts (birth_of es (n + i)).to (travels (birth_of es (n + i))) (birth_of es (n + i)).low s.1 s.0 (cells_of es js (n + i)) (moves_from 0 es (n + i))) → EachPlays starts es js n more
each_plays starts es js n [] h = tt
each_plays starts es js n (s ∷ more) h =
    let at : n + 0 ≡ n = omega arith in (
      subst (λ (z : ℕ). BeginsWithArrival starts (birth_of es z).to (travels (birth_of es z)) (birth_of es z).low s.1 s.0 (cells_of es js z) (moves_from 0 es z)) at (h 0 s refl),
      each_plays starts es js (suc n) more
          (λ i r e. let next : n + suc i ≡ suc n + i = omega arith in subst (λ (z : ℕ). BeginsWithArrival starts (birth_of es z).to (travels (birth_of es z)) (birth_of es z).low r.1 r.0 (cells_of es js z) (moves_from 0 es z)) next (h (suc i) r e)),
    )

module _ (code : Block) (U : Given) (es : List Entry) (js : List (List PlaceEvent)) (proper : Proper U) (one_each : length js ≡ in_all U) (v : IsVerdict code U es js Run) where
  few : U.places ≤ 16
  few = let f : in_all U ≤ 16 = proper.few in omega (arith, f)

  whole : take (length es) es ≡ es
  whole = take_all (length es) es (omega arith)

  part : Part code U es js (length es)
  part = v.0 (length es) (omega arith)

  allowed : AllAllowed 0 (opening U.places) es
  allowed = subst (λ (xs : List Entry). AllAllowed 0 (opening U.places) xs) whole part.allowed

  starts : Starts
  starts = part.starts

  made : Made code U.places es js starts
  unfolding starts part
  made = subst (λ (xs : List Entry). Made code U.places xs js starts) whole part.made

  -- the whole journal is good
  law : (p : ℕ) (n : ℕ) → length (journal_at js p) ≡ n → IsStoreRun U.heap opening_state (journal_at js p) × NotFalling 0 (journal_at js p)
  law p zero e = empty (journal_at js p) e where
    empty : (j : List PlaceEvent) → length j ≡ 0 → IsStoreRun U.heap opening_state j × NotFalling 0 j
    empty [] e = (tt, tt)
    empty (x ∷ j) e = absurd (omega arith)
  law p (suc n) e =
      let good : IsGood code U es js p n = v.2 p n (omega arith) in
      let all : take (suc n) (journal_at js p) ≡ journal_at js p = take_all (suc n) (journal_at js p) (omega arith) in
      (subst (λ (j : List PlaceEvent). IsStoreRun U.heap opening_state j) all good.law, subst (λ (j : List PlaceEvent). NotFalling 0 j) all good.rising)

  cause : (p e : ℕ) (x : PlaceEvent) → slice_get (journal_at js p) e ≡ Some x → e < length (journal_at js p) → CauseOf Between code U es js p e (Some x)
  cause p e x at low = subst (λ (o : Option PlaceEvent). CauseOf Between code U es js p e o) at ((v.2 p e low).stamps e (omega arith) (v.2 p e low).cause)

  -- each event of a task is made
  event : (t : ℕ) (s : Term × Vars) → slice_get starts t ≡ Some s → (k : ℕ) → k < length (cells_of es js t) → TaskMakesEvent Between starts es js t s k
  event t s e k l =
      let p : ℕ = (birth_of es t).to.0 in
      let f : Found t (journal_at js p) k = event_at t (journal_at js p) k l in
      let m : IsMade Between code U es js p f.task.0 (events_before f.task.0 (journal_at js p) f.e) = cause p f.e (Done f.task f.stamp f.cell f.path) f.at f.inside in
      let n : IsMade Between code U es js p t (events_before t (journal_at js p) f.e) = subst (λ (z : ℕ). IsMade Between code U es js p z (events_before z (journal_at js p) f.e)) f.mine m in
      let o : IsMade Between code U es js p t k = subst (λ (z : ℕ). IsMade Between code U es js p t z) f.count n in
      let same : o.starts ≡ starts = made_once code U.places es js proper.some few allowed o.starts starts o.made made in
      let got : slice_get starts t ≡ Some o.start = ap (λ (z : Starts). slice_get z t) (sym same) ∙ o.begins in
      let start : o.start ≡ s = cc (got, e) in
      subst (λ (z : Starts × (Term × Vars)). TaskMakesEvent Between z.0 es js t z.1 k) {x = (o.starts, o.start)} {y = (starts, s)} (λ i. (same i, start i)) o.event

  begins : (t : ℕ) (s : Term × Vars) → slice_get starts t ≡ Some s → BeginsWithArrival starts (birth_of es t).to (travels (birth_of es t)) (birth_of es t).low s.1 s.0 (cells_of es js t) (moves_from 0 es t)
  begins t s e =
      let cells : Cells = cells_of es js t in
      let b : Birth = birth_of es t in
      let moves : Moves = moves_from 0 es t in
      let climbs : Climbs 0 cells = climbs_of t 0 (journal_at js b.to.0) (law b.to.0 (length (journal_at js b.to.0)) refl).1 in
      let task : TaskMakes starts es js t s = made_at code U.places es js starts made t s e in
      let rises = landing_rises (λ low moves. (rest : Cells) × Makes starts b.to s.1 s.0 [] cells moves rest) (Unit {0}) (travels b) b.low moves task (task_rises U.places es proper.some few allowed t) in
      let events = landing_each (λ low moves. (rest : Cells) × Makes starts b.to s.1 s.0 [] cells moves rest) (Unit {0}) (λ k low moves. MakesEvent Between starts b.to low s.1 s.0 [] cells moves k) (length cells) (travels b) b.low moves task (event t s e) in
      let both = landing_map (λ low moves. (rest : Cells) × Makes starts b.to s.1 s.0 [] cells moves rest) (λ low moves. Rises low moves) (λ low moves. ((rest : Cells) × Makes starts b.to s.1 s.0 [] cells moves rest) × Rises low moves) (Unit {0}) (Unit {0}) (Unit {0}) (λ low moves x y. (x, y)) (λ x y. tt) (travels b) b.low moves task rises in
      begins_from starts b.to (travels b) b.low s.1 s.0 cells moves
      (landing_map (λ low moves. ((rest : Cells) × Makes starts b.to s.1 s.0 [] cells moves rest) × Rises low moves) (λ low moves. AllMade starts b.to low s.1 s.0 [] cells moves) (λ low moves. Plays starts b.to low s.1 s.0 [] cells moves) (Unit {0}) (length cells ≡ 0) (cells ≡ [])
      (λ low moves x y. parts_play starts b.to low s.1 s.0 [] cells x.0.0 moves x.0.1 y climbs x.1) (λ x y. no_cells cells y) (travels b) b.low moves both events)

  played : Played code U.places es js
  played =
      record {
        starts = starts;
        main = made.main;
        all = made.all;
        each = each_plays starts es js 0 starts (λ i s e. let at : i ≡ 0 + i = omega arith in subst (λ (z : ℕ). BeginsWithArrival starts (birth_of es z).to (travels (birth_of es z)) (birth_of es z).low s.1 s.0 (cells_of es js z) (moves_from 0 es z)) at (begins i s e));
      }

  home : (p e : ℕ) (u : TaskId) (stamp : ℕ) (cell : Cell) (x : List ℕ) → slice_get (journal_at js p) e ≡ Some (Done u stamp cell x) → (u.0 < 1 + births es) × ((birth_of es u.0).to.0 ≡ p)
  home p e u stamp cell x at =
      let m : IsMade Between code U es js p u.0 (events_before u.0 (journal_at js p) e) = cause p e (Done u stamp cell x) at (slice_get_within (journal_at js p) e (Done u stamp cell x) at) in
      (m.born, m.home)

  journal : (p : ℕ) → p < in_all U → JournalOk U es p (journal_at js p)
  journal p low =
      let both = law p (length (journal_at js p)) refl in
      record {
        law = both.0;
        homes = at_home es p (journal_at js p) (λ e u stamp cell x at. home p e u stamp cell x at);
        rising = both.1;
        closed = closes_at (death_number 0 (record { 0 = p }) es) U.heap opening_state (journal_at js p) both.0 (λ e s at. cause p e (Close s) at (slice_get_within (journal_at js p) e (Close s) at)) (v.3 p low);
      }

  pub reads : IsRun code U es js
  reads =
      record {
        folds = record { some = proper.some; few = few; allowed = allowed; plan = subst (λ (xs : List Entry). PlanKept 0 (plan_of U) xs) whole part.plan };
        ends = v.1;
        played = played;
        one_each = one_each;
        journals = all_journals U es 0 js (λ i j e. let low : i < length js = slice_get_within js i j e in let at : i ≡ 0 + i = omega arith in subst (λ (z : ℕ). JournalOk U es z j) at (subst (λ (k : List PlaceEvent). JournalOk U es i k) (journal_got js i j e) (journal i (omega (arith, low)))));
      }

pub verdict_is_run : VerdictIsRun
verdict_is_run code U es js proper one_each v = reads code U es js proper one_each v
