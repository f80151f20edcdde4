-- The histories of deaths that are whole runs.
use Rattle.std.proofs.Common.{pos, [], ◌∷◌, refl, lit<, lit≤, arith}
use Rattle.rx_rules.proofs.Common.{Ref, Num, Nothing, Then, Print as Prints, Throw, Async, AtAsync, Finish, no_vars, Empty, items, Gives, asks, ends, stops, IsLeastFree, opening_state, IsRun, p, ordinary_script, ordinary_case, ordinary_case_journals, ordinary_setup, source_script, masked_script}
use Rattle.rx_rules.specs.Plays.{local, stores}
use Rattle.rx_worked.specs.Deaths.{late_kill_setup, both_at_once_setup, both_at_once, both_at_once_journals, first_kill_setup, born_struck, born_struck_journals, async_inside_script, at_and_async, at_and_async_journals, both_die_setup, both_die, both_die_journals, make_script, makes_between, stamped, held_fault_setup, held_fault, held_fault_journals}

-- four words fit at the front of an empty heap
at_front : IsLeastFree 256 opening_state 4 0
at_front = record { here = refl; least = λ b h. absurd (omega arith) }

pub born_struck_runs : IsRun ordinary_script first_kill_setup born_struck born_struck_journals
born_struck_runs =
    record {
      folds = record { some = lit≤ tt; few = lit≤ tt; allowed = (record { task = _; stands = refl; unstruck = refl; asks = ((p 0, (refl, refl)), refl, refl) }, ((lit< tt, (λ e. cc), refl), (record { task = _; stands = refl; unstruck = refl; asks = ((refl, refl), refl, refl, lit< tt) }, (record { task = _; stands = refl; unstruck = refl; asks = ((p 0, (refl, refl)), _, (refl, refl), refl) }, (record { task = _; stands = refl; unstruck = refl; asks = (refl, _, (refl, refl), record { is_quiet = refl; places = refl; count = refl; faults = refl }) }, (record { task = _; stands = refl; unstruck = refl; asks = ((p 0, (refl, refl)), refl) }, ((_, refl, record { is_quiet = refl; places = refl; count = refl; faults = refl }), tt))))))); plan = (lit< tt, ((refl, lit≤ tt), (tt, (tt, (tt, (tt, (tt, tt))))))) };
      ends = refl;
      played = record { starts = (items ordinary_script [] Empty, no_vars 2) ∷ (items (Then (Prints (Num (pos 7))) Nothing) (0 ∷ 0 ∷ []) Empty, no_vars 2) ∷ []; main = refl; all = refl; each = (asks (lit≤ tt) refl tt (asks (lit≤ tt) (refl, refl, refl) refl (asks (lit≤ tt) refl tt (asks (lit≤ tt) tt tt (ends (lit≤ tt) refl)))), (refl, tt)) };
      one_each = refl;
      journals = (record { law = tt; homes = tt; rising = tt; closed = refl }, (record { law = refl; homes = tt; rising = (lit≤ tt, tt); closed = refl }, tt));
    }

pub at_and_async_runs : IsRun async_inside_script ordinary_setup at_and_async at_and_async_journals
at_and_async_runs =
    record {
      folds = record { some = lit≤ tt; few = lit≤ tt; allowed = (record { task = _; stands = refl; unstruck = refl; asks = ((p 0, (refl, refl)), refl, refl) }, (record { task = _; stands = refl; unstruck = refl; asks = ((refl, refl), refl, refl, refl, lit< tt) }, (record { task = _; stands = refl; unstruck = refl; asks = (p 0, refl) }, (record { task = _; stands = refl; unstruck = refl; asks = ((refl, refl), refl, refl, lit< tt) }, (record { task = _; stands = refl; unstruck = refl; asks = ((p 1, (refl, refl)), refl) }, (record { task = _; stands = refl; unstruck = refl; asks = (refl, _, (refl, refl), record { is_quiet = refl; places = refl; count = refl; faults = refl }) }, (record { task = _; stands = refl; unstruck = refl; asks = (p 0, (refl, refl)) }, (record { task = _; stands = refl; unstruck = refl; asks = ((p 0, (refl, refl)), _, (refl, refl), refl) }, (record { task = _; stands = refl; unstruck = refl; asks = (p 1, (refl, refl)) }, (record { task = _; stands = refl; unstruck = refl; asks = ((p 1, (refl, refl)), refl) }, (record { task = _; stands = refl; unstruck = refl; asks = (refl, _, (refl, refl), record { is_quiet = refl; places = refl; count = refl; faults = refl }) }, (record { task = _; stands = refl; unstruck = refl; asks = ((p 0, (refl, refl)), refl) }, ((_, refl, record { is_quiet = refl; places = refl; count = refl; faults = refl }), tt))))))))))))); plan = (tt, (tt, (tt, (tt, (tt, (tt, (tt, (tt, (tt, (tt, (tt, (tt, (tt, tt))))))))))))) };
      ends = refl;
      played = record { starts = (items async_inside_script [] Empty, no_vars 2) ∷ (items (Then (Async (Then (Prints (Num (pos 5))) Nothing)) Nothing) (0 ∷ 0 ∷ []) Empty, no_vars 2) ∷ (items (Then (Prints (Num (pos 5))) Nothing) (0 ∷ 0 ∷ 0 ∷ []) Empty, no_vars 2) ∷ []; main = refl; all = refl; each = (asks (lit≤ tt) refl tt (asks (lit≤ tt) (refl, refl, refl) refl (asks (lit≤ tt) tt tt (asks (lit≤ tt) (refl, refl) tt (asks (lit≤ tt) refl tt (asks (lit≤ tt) tt tt (ends (lit≤ tt) refl)))))), ((refl, asks (lit≤ tt) (refl, refl, refl) refl (ends (lit≤ tt) refl)), (asks (lit≤ tt) (refl, refl) tt (ends (lit≤ tt) refl), tt))) };
      one_each = refl;
      journals = (record { law = tt; homes = tt; rising = tt; closed = refl }, (record { law = tt; homes = tt; rising = tt; closed = refl }, tt));
    }

pub both_die_runs : IsRun source_script both_die_setup both_die both_die_journals
both_die_runs =
    record {
      folds = record { some = lit≤ tt; few = lit≤ tt; allowed = (record { task = _; stands = refl; unstruck = refl; asks = ((p 0, (refl, refl)), refl, refl) }, (record { task = _; stands = refl; unstruck = refl; asks = ((refl, refl), refl, refl, lit< tt) }, (record { task = _; stands = refl; unstruck = refl; asks = ((p 0, (refl, refl)), _, (refl, refl), refl) }, (record { task = _; stands = refl; unstruck = refl; asks = (p 0, refl) }, (record { task = _; stands = refl; unstruck = refl; asks = ((refl, refl), refl, refl, lit< tt) }, (record { task = _; stands = refl; unstruck = refl; asks = ((p 1, (refl, refl)), refl) }, ((lit< tt, (λ e. cc), refl), ((lit< tt, (λ e. cc), refl), (record { task = _; stands = refl; unstruck = refl; asks = (refl, _, (refl, refl), record { is_quiet = refl; places = refl; count = refl; faults = refl }) }, (record { task = _; stands = refl; unstruck = refl; asks = (p 0, (refl, refl)) }, (record { task = _; stands = refl; unstruck = refl; asks = ((p 0, (refl, refl)), refl) }, ((_, refl, record { is_quiet = refl; places = refl; count = refl; faults = refl }), tt)))))))))))); plan = (lit< tt, (lit< tt, (lit< tt, (lit< tt, (lit< tt, (lit< tt, ((refl, lit≤ tt), ((refl, lit≤ tt), (tt, (tt, (tt, (tt, tt)))))))))))) };
      ends = refl;
      played = record { starts = (items source_script [] Empty, no_vars 3) ∷ (items (Then (AtAsync (Num (pos 2)) (Then (Prints (Num (pos 1))) Nothing)) Nothing) (0 ∷ 0 ∷ 0 ∷ 0 ∷ []) Empty, no_vars 3) ∷ (items (Then (Prints (Num (pos 1))) Nothing) (0 ∷ 0 ∷ 0 ∷ 0 ∷ 0 ∷ []) Empty, no_vars 3) ∷ []; main = refl; all = refl; each = (local refl (asks (lit≤ tt) refl tt (asks (lit≤ tt) (refl, refl, refl) refl (asks (lit≤ tt) refl tt (asks (lit≤ tt) tt tt (local refl (asks (lit≤ tt) (refl, refl) tt (ends (lit≤ tt) refl))))))), ((refl, asks (lit≤ tt) (refl, refl, refl) refl (ends (lit≤ tt) refl)), (refl, tt))) };
      one_each = refl;
      journals = (record { law = tt; homes = tt; rising = tt; closed = refl }, (record { law = refl; homes = tt; rising = (lit≤ tt, tt); closed = refl }, (record { law = refl; homes = tt; rising = (lit≤ tt, tt); closed = refl }, tt)));
    }

pub makes_between_runs : IsRun make_script ordinary_setup makes_between (stamped 1)
makes_between_runs =
    record {
      folds = record { some = lit≤ tt; few = lit≤ tt; allowed = (record { task = _; stands = refl; unstruck = refl; asks = (p 0, (refl, refl)) }, (record { task = _; stands = refl; unstruck = refl; asks = ((p 0, (refl, refl)), refl) }, ((_, refl, record { is_quiet = refl; places = refl; count = refl; faults = refl }), tt))); plan = (tt, (tt, (tt, tt))) };
      ends = refl;
      played = record { starts = (items make_script [] Empty, no_vars 2) ∷ []; main = refl; all = refl; each = (asks (lit≤ tt) (refl, refl) tt (stores (Gives 0 (Ref (record { home = p 0; start = 0; generation = 1 }))) (lit≤ tt) (refl, refl) refl (ends (lit≤ tt) refl)), tt) };
      one_each = refl;
      journals = (record { law = ((at_front, refl), tt); homes = (lit< tt, refl, tt); rising = (lit≤ tt, tt); closed = refl }, (record { law = tt; homes = tt; rising = tt; closed = refl }, tt));
    }

pub late_kill_runs : IsRun ordinary_script late_kill_setup ordinary_case ordinary_case_journals
late_kill_runs =
    record {
      folds = record { some = lit≤ tt; few = lit≤ tt; allowed = (record { task = _; stands = refl; unstruck = refl; asks = ((p 0, (refl, refl)), refl, refl) }, (record { task = _; stands = refl; unstruck = refl; asks = ((refl, refl), refl, refl, lit< tt) }, (record { task = _; stands = refl; unstruck = refl; asks = ((p 0, (refl, refl)), _, (refl, refl), refl) }, (record { task = _; stands = refl; unstruck = refl; asks = (p 0, refl) }, (record { task = _; stands = refl; unstruck = refl; asks = (p 1, (refl, refl)) }, (record { task = _; stands = refl; unstruck = refl; asks = ((p 1, (refl, refl)), refl) }, (record { task = _; stands = refl; unstruck = refl; asks = (refl, _, (refl, refl), record { is_quiet = refl; places = refl; count = refl; faults = refl }) }, (record { task = _; stands = refl; unstruck = refl; asks = (p 0, (refl, refl)) }, (record { task = _; stands = refl; unstruck = refl; asks = ((p 0, (refl, refl)), refl) }, ((_, refl, record { is_quiet = refl; places = refl; count = refl; faults = refl }), tt)))))))))); plan = (lit< tt, (lit< tt, (lit< tt, (lit< tt, (lit< tt, (lit< tt, (lit< tt, (lit< tt, (lit< tt, (lit< tt, tt)))))))))) };
      ends = refl;
      played = record { starts = (items ordinary_script [] Empty, no_vars 2) ∷ (items (Then (Prints (Num (pos 7))) Nothing) (0 ∷ 0 ∷ []) Empty, no_vars 2) ∷ []; main = refl; all = refl; each = (asks (lit≤ tt) refl tt (asks (lit≤ tt) (refl, refl, refl) refl (asks (lit≤ tt) refl tt (asks (lit≤ tt) tt tt (asks (lit≤ tt) (refl, refl) tt (ends (lit≤ tt) refl))))), ((refl, asks (lit≤ tt) (refl, refl) tt (ends (lit≤ tt) refl)), tt)) };
      one_each = refl;
      journals = (record { law = tt; homes = tt; rising = tt; closed = refl }, (record { law = tt; homes = tt; rising = tt; closed = refl }, tt));
    }

pub both_at_once_runs : IsRun ordinary_script both_at_once_setup both_at_once both_at_once_journals
both_at_once_runs =
    record {
      folds = record { some = lit≤ tt; few = lit≤ tt; allowed = (record { task = _; stands = refl; unstruck = refl; asks = ((p 0, (refl, refl)), refl, refl) }, (record { task = _; stands = refl; unstruck = refl; asks = ((refl, refl), refl, refl, lit< tt) }, (record { task = _; stands = refl; unstruck = refl; asks = ((p 0, (refl, refl)), _, (refl, refl), refl) }, (record { task = _; stands = refl; unstruck = refl; asks = (p 0, refl) }, ((lit< tt, (λ e. cc), refl), ((lit< tt, (λ e. cc), refl), (record { task = _; stands = refl; unstruck = refl; asks = (refl, _, (refl, refl), record { is_quiet = refl; places = refl; count = refl; faults = refl }) }, (record { task = _; stands = refl; unstruck = refl; asks = ((p 0, (refl, refl)), refl) }, ((_, refl, record { is_quiet = refl; places = refl; count = refl; faults = refl }), tt))))))))); plan = (lit< tt, (lit< tt, (lit< tt, (lit< tt, ((refl, lit≤ tt), ((refl, lit≤ tt), (tt, (tt, (tt, tt))))))))) };
      ends = refl;
      played = record { starts = (items ordinary_script [] Empty, no_vars 3) ∷ (items (Then (Prints (Num (pos 7))) Nothing) (0 ∷ 0 ∷ []) Empty, no_vars 3) ∷ []; main = refl; all = refl; each = (asks (lit≤ tt) refl tt (asks (lit≤ tt) (refl, refl, refl) refl (asks (lit≤ tt) refl tt (asks (lit≤ tt) tt tt (ends (lit≤ tt) refl)))), ((refl, stops), tt)) };
      one_each = refl;
      journals = (record { law = tt; homes = tt; rising = tt; closed = refl }, (record { law = refl; homes = tt; rising = (lit≤ tt, tt); closed = refl }, (record { law = refl; homes = tt; rising = (lit≤ tt, tt); closed = refl }, tt)));
    }

pub held_fault_runs : IsRun masked_script held_fault_setup held_fault held_fault_journals
held_fault_runs =
    record {
      folds = record { some = lit≤ tt; few = lit≤ tt; allowed = (record { task = _; stands = refl; unstruck = refl; asks = ((p 0, (refl, refl)), refl, refl) }, (record { task = _; stands = refl; unstruck = refl; asks = ((refl, refl), refl, refl, lit< tt) }, (record { task = _; stands = refl; unstruck = refl; asks = ((p 0, (refl, refl)), _, (refl, refl), refl) }, (record { task = _; stands = refl; unstruck = refl; asks = (p 0, refl) }, (record { task = _; stands = refl; unstruck = refl; asks = ((p 1, (refl, refl)), refl, refl) }, (record { task = _; stands = refl; unstruck = refl; asks = ((refl, refl), refl, refl, lit< tt) }, (record { task = _; stands = refl; unstruck = refl; asks = ((p 1, (refl, refl)), _, (refl, refl), refl) }, (record { task = _; stands = refl; unstruck = refl; asks = (p 1, refl) }, (record { task = _; stands = refl; unstruck = refl; asks = ((p 2, (refl, refl)), refl) }, ((lit< tt, (λ e. cc), refl), (record { task = _; stands = refl; unstruck = refl; asks = (refl, _, (refl, refl), record { is_quiet = refl; places = refl; count = refl; faults = refl }) }, (record { task = _; stands = refl; unstruck = refl; asks = (p 0, (refl, refl)) }, (record { task = _; stands = refl; unstruck = refl; asks = ((p 0, (refl, refl)), refl) }, ((_, refl, record { is_quiet = refl; places = refl; count = refl; faults = refl }), tt)))))))))))))); plan = (lit< tt, (lit< tt, (lit< tt, (lit< tt, (lit< tt, (lit< tt, (lit< tt, (lit< tt, (lit< tt, ((refl, lit≤ tt), (tt, (tt, (tt, (tt, tt)))))))))))))) };
      ends = refl;
      played = record { starts = (items masked_script [] Empty, no_vars 3) ∷ (items (Then (Finish (Then (AtAsync (Num (pos 2)) (Then (Throw (Num (pos 5))) Nothing)) Nothing)) Nothing) (0 ∷ 0 ∷ 0 ∷ 0 ∷ []) Empty, no_vars 3) ∷ (items (Then (Throw (Num (pos 5))) Nothing) (0 ∷ 0 ∷ 0 ∷ 0 ∷ 0 ∷ 0 ∷ []) Empty, no_vars 3) ∷ []; main = refl; all = refl; each = (local refl (asks (lit≤ tt) refl tt (asks (lit≤ tt) (refl, refl, refl) refl (asks (lit≤ tt) refl tt (asks (lit≤ tt) tt tt (local refl (asks (lit≤ tt) (refl, refl) tt (ends (lit≤ tt) refl))))))), ((refl, asks (lit≤ tt) refl tt (asks (lit≤ tt) (refl, refl, refl) refl (asks (lit≤ tt) refl tt (stops)))), ((refl, local refl (ends (lit≤ tt) refl)), tt))) };
      one_each = refl;
      journals = (record { law = tt; homes = tt; rising = tt; closed = refl }, (record { law = refl; homes = tt; rising = (lit≤ tt, tt); closed = refl }, (record { law = tt; homes = tt; rising = tt; closed = refl }, tt)));
    }
