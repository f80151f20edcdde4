-- The worked histories of statements are whole runs, and the wrong ones are in none.
use Rattle.std.proofs.Common.{◌≡◌, ℕ, pos, true, false, List, [], ◌∷◌, Some, slice_get, refl, lit<, lit≤, subst}
use Rattle.rx_rules.proofs.Common.{Number, Ref, Fault, Index, Thrown, Num, Name, Nothing, Then, Get, Print, Throw, Term, Vars, no_vars, bound, Empty, items, Gives, Fine, Fails, Plays, asks, ends, BeginsWithArrival, EachPlays, birth_of, travels, Live, fits, word_at, IsRun, p, ordinary_setup, kill_setup, loss_in_transit_journals, BeginsNoRun, acts_of, events_of_task}
use Rattle.rx_rules.specs.declared.entries.Act.{Act}
use Rattle.rx_rules.specs.declared.entries.Act.TheVariants.{End, Print as Prints}
use Rattle.rx_rules.specs.declared.entries.Entry.{Entry}
use Rattle.rx_rules.specs.declared.events.Cell.{Cell}
use Rattle.rx_rules.specs.declared.events.PlaceEvent.{PlaceEvent}
use Rattle.rx_rules.specs.Plays.{local, stores}
use Rattle.rx_rules.proofs.Worked.{at_front}
use Rattle.rx_worked.specs.Statements.{StoresNoRun, no_events, turns_script, turns, copied_script, copied, dead_script, not_caught, any_script, caught, in_order_script, in_order, too_large_script, too_large, used_away_script, used_away, used_away_journals, values_block, values_script, values, kept_script, kept, kept_journals, nowhere_script, nowhere, full_beside_hole, not_at_least, another_word, mixed_script, mixed, swallows_fault, value_script, IsNoRun, other_value, ends_early}

pub turns_runs : IsRun turns_script ordinary_setup turns no_events
turns_runs =
    record {
      folds = record { some = lit≤ tt; few = lit≤ tt; allowed = (record { task = _; stands = refl; unstruck = refl; asks = (p 0, (refl, refl)) }, (record { task = _; stands = refl; unstruck = refl; asks = (p 0, (refl, refl)) }, (record { task = _; stands = refl; unstruck = refl; asks = ((p 0, (refl, refl)), refl) }, ((_, refl, record { is_quiet = refl; places = refl; count = refl; faults = refl }), tt)))); plan = (tt, (tt, (tt, (tt, tt)))) };
      ends = refl;
      played = record { starts = (items turns_script [] Empty, no_vars 2) ∷ []; main = refl; all = refl; each = (local refl (local refl (local refl (local refl (asks (lit≤ tt) (refl, refl) tt (local refl (local refl (local refl (asks (lit≤ tt) (refl, refl) tt (local refl (local refl (ends (lit≤ tt) refl))))))))))), tt) };
      one_each = refl;
      journals = (record { law = tt; homes = tt; rising = tt; closed = refl }, (record { law = tt; homes = tt; rising = tt; closed = refl }, tt));
    }

pub copied_runs : IsRun copied_script ordinary_setup copied no_events
copied_runs =
    record {
      folds = record { some = lit≤ tt; few = lit≤ tt; allowed = (record { task = _; stands = refl; unstruck = refl; asks = ((p 0, (refl, refl)), refl, refl) }, (record { task = _; stands = refl; unstruck = refl; asks = ((refl, refl), refl, refl, lit< tt) }, (record { task = _; stands = refl; unstruck = refl; asks = ((p 0, (refl, refl)), _, (refl, refl), refl) }, (record { task = _; stands = refl; unstruck = refl; asks = (p 0, (refl, refl)) }, (record { task = _; stands = refl; unstruck = refl; asks = ((p 0, (refl, refl)), refl) }, (record { task = _; stands = refl; unstruck = refl; asks = (refl, _, (refl, refl), record { is_quiet = refl; places = refl; count = refl; faults = refl }) }, (record { task = _; stands = refl; unstruck = refl; asks = ((p 0, (refl, refl)), refl) }, ((_, refl, record { is_quiet = refl; places = refl; count = refl; faults = refl }), tt)))))))); plan = (tt, (tt, (tt, (tt, (tt, (tt, (tt, (tt, tt)))))))) };
      ends = refl;
      played = record { starts = (items copied_script [] Empty, no_vars 2) ∷ (items (Then (Print (Name 0)) Nothing) (1 ∷ 0 ∷ []) Empty, bound 0 (Number (pos 3)) (no_vars 2)) ∷ []; main = refl; all = refl; each = (local refl (asks (lit≤ tt) refl tt (asks (lit≤ tt) (refl, refl, refl) refl (local refl (asks (lit≤ tt) refl tt (asks (lit≤ tt) tt tt (ends (lit≤ tt) refl)))))), (asks (lit≤ tt) (refl, refl) tt (ends (lit≤ tt) refl), tt)) };
      one_each = refl;
      journals = (record { law = tt; homes = tt; rising = tt; closed = refl }, (record { law = tt; homes = tt; rising = tt; closed = refl }, tt));
    }

pub not_caught_runs : IsRun dead_script ordinary_setup not_caught no_events
not_caught_runs =
    record {
      folds = record { some = lit≤ tt; few = lit≤ tt; allowed = (record { task = _; stands = refl; unstruck = refl; asks = ((p 0, (refl, refl)), refl) }, ((_, refl, record { is_quiet = refl; places = refl; count = refl; faults = refl }), tt)); plan = (tt, (tt, tt)) };
      ends = refl;
      played = record { starts = (items dead_script [] Empty, no_vars 2) ∷ []; main = refl; all = refl; each = (local refl (local refl (local refl (ends (lit≤ tt) refl))), tt) };
      one_each = refl;
      journals = (record { law = tt; homes = tt; rising = tt; closed = refl }, (record { law = tt; homes = tt; rising = tt; closed = refl }, tt));
    }

pub caught_runs : IsRun any_script ordinary_setup caught no_events
caught_runs =
    record {
      folds = record { some = lit≤ tt; few = lit≤ tt; allowed = (record { task = _; stands = refl; unstruck = refl; asks = (p 0, (refl, refl)) }, (record { task = _; stands = refl; unstruck = refl; asks = ((p 0, (refl, refl)), refl) }, ((_, refl, record { is_quiet = refl; places = refl; count = refl; faults = refl }), tt))); plan = (tt, (tt, (tt, tt))) };
      ends = refl;
      played = record { starts = (items any_script [] Empty, no_vars 2) ∷ []; main = refl; all = refl; each = (local refl (local refl (local refl (asks (lit≤ tt) (refl, refl) tt (ends (lit≤ tt) refl)))), tt) };
      one_each = refl;
      journals = (record { law = tt; homes = tt; rising = tt; closed = refl }, (record { law = tt; homes = tt; rising = tt; closed = refl }, tt));
    }

pub in_order_runs : IsRun in_order_script ordinary_setup in_order no_events
in_order_runs =
    record {
      folds = record { some = lit≤ tt; few = lit≤ tt; allowed = (record { task = _; stands = refl; unstruck = refl; asks = ((p 0, (refl, refl)), refl, refl) }, (record { task = _; stands = refl; unstruck = refl; asks = ((refl, refl), refl, refl, lit< tt) }, (record { task = _; stands = refl; unstruck = refl; asks = ((refl, refl), refl, refl, lit< tt) }, (record { task = _; stands = refl; unstruck = refl; asks = ((p 0, (refl, refl)), _, (refl, refl), refl) }, (record { task = _; stands = refl; unstruck = refl; asks = ((p 0, (refl, refl)), refl) }, (record { task = _; stands = refl; unstruck = refl; asks = ((p 0, (refl, refl)), refl) }, (record { task = _; stands = refl; unstruck = refl; asks = (refl, _, (refl, refl), record { is_quiet = refl; places = refl; count = refl; faults = refl }) }, (record { task = _; stands = refl; unstruck = refl; asks = (p 0, (refl, refl)) }, (record { task = _; stands = refl; unstruck = refl; asks = ((p 0, (refl, refl)), refl) }, ((_, refl, record { is_quiet = refl; places = refl; count = refl; faults = refl }), tt)))))))))); plan = (tt, (tt, (tt, (tt, (tt, (tt, (tt, (tt, (tt, (tt, tt)))))))))) };
      ends = refl;
      played = record { starts = (items in_order_script [] Empty, no_vars 2) ∷ (items (Then (Throw (Num (pos 1))) Nothing) (0 ∷ 0 ∷ 0 ∷ 0 ∷ []) Empty, no_vars 2) ∷ (items (Then (Throw (Num (pos 2))) Nothing) (0 ∷ 0 ∷ 0 ∷ 1 ∷ []) Empty, no_vars 2) ∷ []; main = refl; all = refl; each = (local refl (asks (lit≤ tt) refl tt (asks (lit≤ tt) (refl, refl, refl) refl (asks (lit≤ tt) (refl, refl, refl) refl (local refl (asks (lit≤ tt) refl tt (asks (lit≤ tt) tt tt (local refl (asks (lit≤ tt) (refl, refl) tt (ends (lit≤ tt) refl))))))))), (local refl (ends (lit≤ tt) refl), (local refl (ends (lit≤ tt) refl), tt))) };
      one_each = refl;
      journals = (record { law = tt; homes = tt; rising = tt; closed = refl }, (record { law = tt; homes = tt; rising = tt; closed = refl }, tt));
    }

pub too_large_runs : IsRun too_large_script ordinary_setup too_large no_events
too_large_runs =
    record {
      folds = record { some = lit≤ tt; few = lit≤ tt; allowed = (record { task = _; stands = refl; unstruck = refl; asks = ((p 0, (refl, refl)), refl) }, ((_, refl, record { is_quiet = refl; places = refl; count = refl; faults = refl }), tt)); plan = (tt, (tt, tt)) };
      ends = refl;
      played = record { starts = (items too_large_script [] Empty, no_vars 2) ∷ []; main = refl; all = refl; each = (local refl (ends (lit≤ tt) refl), tt) };
      one_each = refl;
      journals = (record { law = tt; homes = tt; rising = tt; closed = refl }, (record { law = tt; homes = tt; rising = tt; closed = refl }, tt));
    }

pub used_away_runs : IsRun used_away_script ordinary_setup used_away used_away_journals
used_away_runs =
    record {
      folds = record { some = lit≤ tt; few = lit≤ tt; allowed = (record { task = _; stands = refl; unstruck = refl; asks = ((refl, refl), refl, refl, refl, lit< tt) }, (record { task = _; stands = refl; unstruck = refl; asks = (p 0, refl) }, (record { task = _; stands = refl; unstruck = refl; asks = ((p 1, (refl, refl)), refl) }, (record { task = _; stands = refl; unstruck = refl; asks = (refl, _, (refl, refl), record { is_quiet = refl; places = refl; count = refl; faults = refl }) }, (record { task = _; stands = refl; unstruck = refl; asks = (p 0, (refl, refl)) }, (record { task = _; stands = refl; unstruck = refl; asks = ((p 0, (refl, refl)), refl) }, ((_, refl, record { is_quiet = refl; places = refl; count = refl; faults = refl }), tt))))))); plan = (tt, (tt, (tt, (tt, (tt, (tt, (tt, tt))))))) };
      ends = refl;
      played = record { starts = (items used_away_script [] Empty, no_vars 2) ∷ (items (Then (Get 1 0 (Num (pos 0))) Nothing) (1 ∷ 0 ∷ 0 ∷ []) Empty, bound 0 (Ref (record { home = p 0; start = 0; generation = 1 })) (no_vars 2)) ∷ []; main = refl; all = refl; each = (stores (Gives 0 (Ref (record { home = p 0; start = 0; generation = 1 }))) (lit≤ tt) (refl, refl) refl (local refl (asks (lit≤ tt) (refl, refl, refl) refl (asks (lit≤ tt) tt tt (local refl (asks (lit≤ tt) (refl, refl) tt (ends (lit≤ tt) refl)))))), ((refl, local refl (ends (lit≤ tt) refl)), tt)) };
      one_each = refl;
      journals = (record { law = ((at_front refl, refl), tt); homes = (lit< tt, refl, tt); rising = (lit≤ tt, tt); closed = refl }, (record { law = tt; homes = tt; rising = tt; closed = refl }, tt));
    }

pub values_runs : IsRun values_script ordinary_setup values no_events
values_runs =
    record {
      folds = record { some = lit≤ tt; few = lit≤ tt; allowed = (record { task = _; stands = refl; unstruck = refl; asks = ((refl, refl), refl, refl, refl, lit< tt) }, (record { task = _; stands = refl; unstruck = refl; asks = (p 0, refl) }, (record { task = _; stands = refl; unstruck = refl; asks = (p 1, (refl, refl)) }, (record { task = _; stands = refl; unstruck = refl; asks = (p 1, (refl, refl)) }, (record { task = _; stands = refl; unstruck = refl; asks = (p 1, (refl, refl)) }, (record { task = _; stands = refl; unstruck = refl; asks = (p 1, (refl, refl)) }, (record { task = _; stands = refl; unstruck = refl; asks = (p 1, (refl, refl)) }, (record { task = _; stands = refl; unstruck = refl; asks = (p 1, (refl, refl)) }, (record { task = _; stands = refl; unstruck = refl; asks = (p 1, (refl, refl)) }, (record { task = _; stands = refl; unstruck = refl; asks = (p 1, (refl, refl)) }, (record { task = _; stands = refl; unstruck = refl; asks = ((p 1, (refl, refl)), refl) }, (record { task = _; stands = refl; unstruck = refl; asks = (refl, _, (refl, refl), record { is_quiet = refl; places = refl; count = refl; faults = refl }) }, (record { task = _; stands = refl; unstruck = refl; asks = ((p 0, (refl, refl)), refl) }, ((_, refl, record { is_quiet = refl; places = refl; count = refl; faults = refl }), tt)))))))))))))); plan = (tt, (tt, (tt, (tt, (tt, (tt, (tt, (tt, (tt, (tt, (tt, (tt, (tt, (tt, tt)))))))))))))) };
      ends = refl;
      played = record { starts = (items values_script [] Empty, no_vars 2) ∷ (items values_block (0 ∷ []) Empty, no_vars 2) ∷ []; main = refl; all = refl; each = (asks (lit≤ tt) (refl, refl, refl) refl (asks (lit≤ tt) tt tt (ends (lit≤ tt) refl)), ((refl, asks (lit≤ tt) (refl, refl) tt (asks (lit≤ tt) (refl, refl) tt (asks (lit≤ tt) (refl, refl) tt (asks (lit≤ tt) (refl, refl) tt (asks (lit≤ tt) (refl, refl) tt (asks (lit≤ tt) (refl, refl) tt (asks (lit≤ tt) (refl, refl) tt (asks (lit≤ tt) (refl, refl) tt (ends (lit≤ tt) refl))))))))), tt)) };
      one_each = refl;
      journals = (record { law = tt; homes = tt; rising = tt; closed = refl }, (record { law = tt; homes = tt; rising = tt; closed = refl }, tt));
    }

pub kept_runs : IsRun kept_script ordinary_setup kept kept_journals
kept_runs =
    record {
      folds = record { some = lit≤ tt; few = lit≤ tt; allowed = (record { task = _; stands = refl; unstruck = refl; asks = (p 0, (refl, refl)) }, (record { task = _; stands = refl; unstruck = refl; asks = (p 0, (refl, refl)) }, (record { task = _; stands = refl; unstruck = refl; asks = ((p 0, (refl, refl)), refl) }, ((_, refl, record { is_quiet = refl; places = refl; count = refl; faults = refl }), tt)))); plan = (tt, (tt, (tt, (tt, tt)))) };
      ends = refl;
      played = record { starts = (items kept_script [] Empty, no_vars 2) ∷ []; main = refl; all = refl; each = (stores (Gives 0 (Ref (record { home = p 0; start = 0; generation = 1 }))) (lit≤ tt) (refl, refl) refl (stores (Fine) (lit≤ tt) (refl, refl, refl, refl) refl (stores (Gives 1 (Number (pos 5))) (lit≤ tt) (refl, refl, refl) refl (asks (lit≤ tt) (refl, refl) tt (stores (Gives 2 (Number (pos 0))) (lit≤ tt) (refl, refl, refl) refl (asks (lit≤ tt) (refl, refl) tt (stores (Fails Index) (lit≤ tt) (refl, refl, refl) refl (ends (lit≤ tt) refl))))))), tt) };
      one_each = refl;
      journals = (record { law = ((at_front refl, refl), ((_, record { block = refl; index = refl }), ((_, record { block = refl; index = refl }, refl), ((_, record { block = refl; index = refl }, refl), ((_, refl, refl), tt))))); homes = (lit< tt, refl, (lit< tt, refl, (lit< tt, refl, (lit< tt, refl, (lit< tt, refl, tt))))); rising = (lit≤ tt, (lit≤ tt, (lit≤ tt, (lit≤ tt, (lit≤ tt, tt))))); closed = refl }, (record { law = tt; homes = tt; rising = tt; closed = refl }, tt));
    }

pub nowhere_runs : IsRun nowhere_script ordinary_setup nowhere no_events
nowhere_runs =
    record {
      folds = record { some = lit≤ tt; few = lit≤ tt; allowed = (record { task = _; stands = refl; unstruck = refl; asks = ((p 0, (refl, refl)), refl) }, ((_, refl, record { is_quiet = refl; places = refl; count = refl; faults = refl }), tt)); plan = (tt, (tt, tt)) };
      ends = refl;
      played = record { starts = (items nowhere_script [] Empty, no_vars 2) ∷ []; main = refl; all = refl; each = (local refl (ends (lit≤ tt) refl), tt) };
      one_each = refl;
      journals = (record { law = tt; homes = tt; rising = tt; closed = refl }, (record { law = tt; homes = tt; rising = tt; closed = refl }, tt));
    }

pub mixed_runs : IsRun mixed_script kill_setup mixed loss_in_transit_journals
mixed_runs =
    record {
      folds = record { some = lit≤ tt; few = lit≤ tt; allowed = (record { task = _; stands = refl; unstruck = refl; asks = ((p 0, (refl, refl)), refl, refl) }, (record { task = _; stands = refl; unstruck = refl; asks = ((refl, refl), refl, refl, lit< tt) }, (record { task = _; stands = refl; unstruck = refl; asks = ((p 0, (refl, refl)), _, (refl, refl), refl) }, ((lit< tt, (λ e. cc), refl), (record { task = _; stands = refl; unstruck = refl; asks = (refl, _, (refl, refl), record { is_quiet = refl; places = refl; count = refl; faults = refl }) }, (record { task = _; stands = refl; unstruck = refl; asks = ((p 0, (refl, refl)), refl) }, ((_, refl, record { is_quiet = refl; places = refl; count = refl; faults = refl }), tt))))))); plan = (lit< tt, (lit< tt, (lit< tt, ((refl, lit≤ tt), (tt, (tt, (tt, tt))))))) };
      ends = refl;
      played = record { starts = (items mixed_script [] Empty, no_vars 2) ∷ (items (Then (Print (Num (pos 7))) Nothing) (0 ∷ 0 ∷ 0 ∷ 0 ∷ []) Empty, no_vars 2) ∷ []; main = refl; all = refl; each = (local refl (asks (lit≤ tt) refl tt (asks (lit≤ tt) (refl, refl, refl) refl (local refl (asks (lit≤ tt) refl tt (asks (lit≤ tt) tt tt (local refl (ends (lit≤ tt) refl))))))), (refl, tt)) };
      one_each = refl;
      journals = (record { law = tt; homes = tt; rising = tt; closed = refl }, (record { law = refl; homes = tt; rising = (lit≤ tt, tt); closed = refl }, tt));
    }

pub full_excluded : StoresNoRun 8 full_beside_hole
full_excluded code places kills joins es more js h = let e : true ≡ false = h.journals.0.law.1.1.1.0 4 in cc

pub higher_excluded : StoresNoRun 8 not_at_least
higher_excluded code places kills joins es more js h = let e : true ≡ false = h.journals.0.law.1.1.1.0.0.least 0 (lit< tt) in cc

pub other_word_excluded : StoresNoRun 8 another_word
other_word_excluded code places kills joins es more js h =
    let found = h.journals.0.law.1.1.0 in
    let block : Some (record { start = 0; generation = 1; words = pos 0 ∷ pos 5 ∷ [] }) ≡ Some found.0 = found.1.block in
    let word : pos 4 ≡ word_at found.0.words (pos 1) = found.2 in
    let same : found.0 ≡ record { start = 0; generation = 1; words = pos 0 ∷ pos 5 ∷ [] } = cc in
    let is_five : pos 4 ≡ pos 5 = subst (λ (b : Live). pos 4 ≡ word_at b.words (pos 1)) same word in cc

pub swallowed_excluded : BeginsNoRun 2 swallows_fault
swallowed_excluded code heap kills joins rest js h =
    let e : ◌≡◌ {A = List Fault} [] (Thrown (pos 1) ∷ []) = h.folds.allowed.1.1.1.1.0.asks.3.faults in cc

-- task 0 plays the whole script
pub main_plays : (starts more : List (Term × Vars)) (s : Term × Vars) (es : List Entry) (js : List (List PlaceEvent)) → slice_get more 0 ≡ Some s → EachPlays starts es js 0 more → BeginsWithArrival starts (birth_of es 0).to (travels (birth_of es 0)) (birth_of es 0).low s.1 s.0 (events_of_task es js 0) (acts_of es 0)
main_plays starts [] s es js h each = absurd (let f : ⊥ = cc in f)
main_plays starts (x ∷ more) s es js h each =
    let e : x ≡ s = cc in subst (λ (y : Term × Vars). BeginsWithArrival starts (birth_of es 0).to (travels (birth_of es 0)) (birth_of es 0).low y.1 y.0 (events_of_task es js 0) (acts_of es 0)) e each.0

-- a print of 7 makes no print of 8
prints_no_other : {starts : List (Term × Vars)} {cells : List (ℕ × Cell × List ℕ)} {more : List (ℕ × Act × List (List ℕ))} → Plays starts (p 0) 0 (no_vars 2) (items value_script [] Empty) [] cells ((0, Prints (pos 8) (0 ∷ []), []) ∷ more) → ⊥
prints_no_other (local e r) = let f : ⊥ = cc in f
prints_no_other (stores a le tells b r) = tells
prints_no_other (asks le fits so r) = let e : pos 8 ≡ pos 7 = fits.0 in cc

-- nor an end
prints_no_end : {starts : List (Term × Vars)} {cells : List (ℕ × Cell × List ℕ)} → Plays starts (p 0) 0 (no_vars 2) (items value_script [] Empty) [] cells ((0, End [], []) ∷ []) → ⊥
prints_no_end (local e r) = let f : ⊥ = cc in f
prints_no_end (stores a le tells b r) = tells
prints_no_end (asks le fits so r) = fits
prints_no_end (ends le e) = let f : ⊥ = cc in f

pub other_value_excluded : IsNoRun value_script ordinary_setup other_value
other_value_excluded js h = prints_no_other (main_plays h.played.starts h.played.starts (items value_script [] Empty, no_vars 2) other_value js h.played.main h.played.each)

pub early_end_excluded : IsNoRun value_script ordinary_setup ends_early
early_end_excluded js h = prints_no_end (main_plays h.played.starts h.played.starts (items value_script [] Empty, no_vars 2) ends_early js h.played.main h.played.each)
