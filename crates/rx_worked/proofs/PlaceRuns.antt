-- The histories of places that join are whole runs, and the wrong ones are in none.
use Rattle.std.proofs.Common.{◌≡◌, ℕ, pos, List, [], ◌∷◌, refl, lit<, lit≤, arith, subst, sym}
use Rattle.rx_rules.proofs.Common.{Number, Fault, NoPlace, TaskId, PlaceId, ScopeId, Here, Nothing, Then, Print as Prints, Term, Vars, no_vars, bound, Empty, Raise, items, raise, Plays, asks, ends, IsRun, p, joining_script, BeginsNoRun}
use Rattle.rx_rules.specs.declared.entries.Act.{Act}
use Rattle.rx_rules.specs.declared.entries.Act.TheVariants.{Spawn}
use Rattle.rx_rules.specs.declared.events.Cell.{Cell}
use Rattle.rx_rules.specs.Plays.{local, stores}
use Rattle.rx_worked.specs.Statements.{IsNoRun}
use Rattle.rx_worked.specs.Places.{away_script, counted_script, child_script, number_script, joined_setup, dead_setup, no_events, never_counted, joined_since, joined_before, counted_later, never_joined, counts_dead, counts_dead_journals, counts_living, starts_unknown}
use Rattle.rx_worked.proofs.StatementRuns.{main_plays}

pub never_counted_runs : IsRun away_script (joined_setup 0) never_counted no_events
never_counted_runs =
    record {
      folds = record { some = lit≤ tt; few = lit≤ tt; allowed = ((refl, lit≤ tt), (record { task = _; stands = refl; unstruck = refl; asks = ((p 0, (refl, refl)), refl) }, ((_, refl, record { is_quiet = refl; places = refl; count = refl; faults = refl }), tt))); plan = ((refl, lit≤ tt), (tt, (tt, tt))) };
      ends = refl;
      played = record { starts = (items away_script [] Empty, no_vars 1) ∷ []; main = refl; all = refl; each = (local refl (ends (lit≤ tt) refl), tt) };
      one_each = refl;
      journals = (record { law = tt; homes = tt; rising = tt; closed = refl }, (record { law = tt; homes = tt; rising = tt; closed = refl }, tt));
    }

pub joined_since_runs : IsRun counted_script (joined_setup 1) joined_since no_events
joined_since_runs =
    record {
      folds = record { some = lit≤ tt; few = lit≤ tt; allowed = (record { task = _; stands = refl; unstruck = refl; asks = ((p 0, (refl, refl)), refl) }, ((refl, lit≤ tt), (record { task = _; stands = refl; unstruck = refl; asks = ((p 0, (refl, refl)), refl) }, ((_, refl, record { is_quiet = refl; places = refl; count = refl; faults = refl }), tt)))); plan = (lit< tt, ((refl, lit≤ tt), (tt, (tt, tt)))) };
      ends = refl;
      played = record { starts = (items counted_script [] Empty, no_vars 1) ∷ []; main = refl; all = refl; each = (asks (lit≤ tt) refl tt (local refl (ends (lit≤ tt) refl)), tt) };
      one_each = refl;
      journals = (record { law = tt; homes = tt; rising = tt; closed = refl }, (record { law = tt; homes = tt; rising = tt; closed = refl }, tt));
    }

pub joined_before_runs : IsRun counted_script (joined_setup 0) joined_before no_events
joined_before_runs =
    record {
      folds = record { some = lit≤ tt; few = lit≤ tt; allowed = ((refl, lit≤ tt), (record { task = _; stands = refl; unstruck = refl; asks = ((p 0, (refl, refl)), refl) }, (record { task = _; stands = refl; unstruck = refl; asks = ((refl, refl), refl, refl, lit< tt) }, (record { task = _; stands = refl; unstruck = refl; asks = ((p 0, (refl, refl)), refl) }, (record { task = _; stands = refl; unstruck = refl; asks = (p 0, refl) }, (record { task = _; stands = refl; unstruck = refl; asks = ((p 1, (refl, refl)), refl) }, ((_, refl, record { is_quiet = refl; places = refl; count = refl; faults = refl }), tt))))))); plan = ((refl, lit≤ tt), (tt, (tt, (tt, (tt, (tt, (tt, tt))))))) };
      ends = refl;
      played = record { starts = (items counted_script [] Empty, no_vars 1) ∷ (Empty, record (bound 0 (Number (pos 2)) (no_vars 1)) { places = 2 }) ∷ []; main = refl; all = refl; each = (asks (lit≤ tt) refl tt (asks (lit≤ tt) (refl, refl, refl) refl (ends (lit≤ tt) refl)), ((refl, ends (lit≤ tt) refl), tt)) };
      one_each = refl;
      journals = (record { law = tt; homes = tt; rising = tt; closed = refl }, (record { law = tt; homes = tt; rising = tt; closed = refl }, tt));
    }

pub counted_later_runs : IsRun child_script (joined_setup 0) counted_later no_events
counted_later_runs =
    record {
      folds = record { some = lit≤ tt; few = lit≤ tt; allowed = ((refl, lit≤ tt), (record { task = _; stands = refl; unstruck = refl; asks = ((refl, refl), refl, refl, lit< tt) }, (record { task = _; stands = refl; unstruck = refl; asks = ((p 0, (refl, refl)), refl) }, (record { task = _; stands = refl; unstruck = refl; asks = ((p 0, (refl, refl)), refl) }, (record { task = _; stands = refl; unstruck = refl; asks = ((p 0, (refl, refl)), refl) }, ((_, refl, record { is_quiet = refl; places = refl; count = refl; faults = refl }), tt)))))); plan = ((refl, lit≤ tt), (tt, (tt, (tt, (tt, (tt, tt)))))) };
      ends = refl;
      played = record { starts = (items child_script [] Empty, no_vars 1) ∷ (items away_script (0 ∷ []) Empty, no_vars 1) ∷ []; main = refl; all = refl; each = (asks (lit≤ tt) (refl, refl, refl) refl (asks (lit≤ tt) refl tt (ends (lit≤ tt) refl)), (local refl (ends (lit≤ tt) refl), tt)) };
      one_each = refl;
      journals = (record { law = tt; homes = tt; rising = tt; closed = refl }, (record { law = tt; homes = tt; rising = tt; closed = refl }, tt));
    }

pub never_joined_runs : IsRun joining_script (joined_setup 50) never_joined no_events
never_joined_runs =
    record {
      folds = record { some = lit≤ tt; few = lit≤ tt; allowed = (record { task = _; stands = refl; unstruck = refl; asks = (p 0, (refl, refl)) }, (record { task = _; stands = refl; unstruck = refl; asks = ((p 0, (refl, refl)), refl) }, (record { task = _; stands = refl; unstruck = refl; asks = ((refl, refl), refl, refl, lit< tt) }, (record { task = _; stands = refl; unstruck = refl; asks = ((p 0, (refl, refl)), refl) }, (record { task = _; stands = refl; unstruck = refl; asks = (p 0, (refl, refl)) }, (record { task = _; stands = refl; unstruck = refl; asks = ((p 0, (refl, refl)), refl) }, ((_, refl, record { is_quiet = refl; places = refl; count = refl; faults = refl }), tt))))))); plan = (lit< tt, (lit< tt, (lit< tt, (lit< tt, (lit< tt, (lit< tt, (lit< tt, tt))))))) };
      ends = refl;
      played = record { starts = (items joining_script [] Empty, no_vars 1) ∷ (items (Then (Prints Here) Nothing) (2 ∷ []) Empty, bound 0 (Number (pos 1)) (no_vars 1)) ∷ []; main = refl; all = refl; each = (asks (lit≤ tt) (refl, refl) tt (asks (lit≤ tt) refl tt (asks (lit≤ tt) (refl, refl, refl) refl (ends (lit≤ tt) refl))), (asks (lit≤ tt) (refl, refl) tt (ends (lit≤ tt) refl), tt)) };
      one_each = refl;
      journals = (record { law = tt; homes = tt; rising = tt; closed = refl }, (record { law = tt; homes = tt; rising = tt; closed = refl }, tt));
    }

pub counts_dead_runs : IsRun number_script dead_setup counts_dead counts_dead_journals
counts_dead_runs =
    record {
      folds = record { some = lit≤ tt; few = lit≤ tt; allowed = ((lit< tt, (λ e. cc), refl), (record { task = _; stands = refl; unstruck = refl; asks = ((p 0, (refl, refl)), refl) }, (record { task = _; stands = refl; unstruck = refl; asks = (p 0, (refl, refl)) }, (record { task = _; stands = refl; unstruck = refl; asks = ((p 0, (refl, refl)), refl) }, ((_, refl, record { is_quiet = refl; places = refl; count = refl; faults = refl }), tt))))); plan = ((refl, lit≤ tt), (tt, (tt, (tt, (tt, tt))))) };
      ends = refl;
      played = record { starts = (items number_script [] Empty, no_vars 2) ∷ []; main = refl; all = refl; each = (asks (lit≤ tt) refl tt (asks (lit≤ tt) (refl, refl) tt (ends (lit≤ tt) refl)), tt) };
      one_each = refl;
      journals = (record { law = tt; homes = tt; rising = tt; closed = refl }, (record { law = refl; homes = tt; rising = (lit≤ tt, tt); closed = refl }, tt));
    }

pub living_excluded : BeginsNoRun 2 counts_living
living_excluded code heap kills joins rest js h = let e : 1 ≡ 2 = h.folds.allowed.1.0.asks.1 in omega (arith, e)

-- a fault that is raised starts no task
raised_starts_none : {starts : List (Term × Vars)} {here : PlaceId} {low n : ℕ} {vars : Vars} {faults : List Fault} {batch told : List (List ℕ)} {cells : List (ℕ × Cell × List ℕ)} {more : List (ℕ × Act × List (List ℕ))} {c : TaskId} {s : ScopeId} {from to : PlaceId} {x : List ℕ} → Plays starts here low vars (Raise faults) batch cells ((n, Spawn c s from to x, told) ∷ more) → ⊥
raised_starts_none (local e r) = let f : ⊥ = cc in f
raised_starts_none (stores a le tells b r) = tells
raised_starts_none (asks le fits so r) = fits

-- nor does a task at a place that it does not know
starts_none : {starts : List (Term × Vars)} {n : ℕ} {told : List (List ℕ)} {cells : List (ℕ × Cell × List ℕ)} {more : List (ℕ × Act × List (List ℕ))} {c : TaskId} {s : ScopeId} {from to : PlaceId} {x : List ℕ} → Plays starts (p 0) 0 (no_vars 1) (items away_script [] Empty) [] cells ((n, Spawn c s from to x, told) ∷ more) → ⊥
starts_none {starts = starts} {n = n} {told = told} {cells = cells} {more = more} {c = c} {s = s} {from = from} {to = to} {x = x} (local {left = left} {after = after} {batch = batch} e r) =
    let is : raise NoPlace ≡ after = cc in
    raised_starts_none (subst (λ t. Plays starts (p 0) 0 left t ((0 ∷ []) ∷ []) cells ((n, Spawn c s from to x, told) ∷ more)) (sym is) r)
starts_none (stores a le tells b r) = tells
starts_none (asks le fits so r) = fits

pub unknown_excluded : IsNoRun away_script (joined_setup 0) starts_unknown
unknown_excluded js h = starts_none (main_plays h.played.starts h.played.starts (items away_script [] Empty, no_vars 1) starts_unknown js h.played.main h.played.each)
