-- The worked histories are whole runs.
use Rattle.std.proofs.Common.{◌≡◌, ℕ, zero, suc, ◌+◌, ◌<◌, pos, nat_le, true, false, [], ◌∷◌, refl, lit<, lit≤, arith}
use Rattle.std.proofs.lemmas.Bool.Decides.{nat_tests}
use Rattle.rx_rules.proofs.Common.{Number, Ref, Stale, HeapFull, Num, Here, Throw, Nothing, Then, Print as Prints, AtAsync, Finish, Term, Vars, no_vars, bound, Empty, items, Gives, Fine, Fails, asks, ends, stops, State, opening_state, after_cell, IsLeastFree, fits, IsRun, adoption_script, adoption_setup, at_waits, full_heap_journals, full_script, full_setup, kill_setup, loss_in_transit, loss_in_transit_journals, ordinary_case, ordinary_case_journals, ordinary_script, ordinary_setup, orphan_script, p, source_script, stale_reference, stale_reference_journals, stale_script, masked_script, joining_script, joining_setup}
use Rattle.rx_rules.specs.declared.events.Cell.TheVariants.{Make}
use Rattle.rx_rules.specs.Plays.{local, stores}
use Rattle.rx_rules.specs.Examples.{adoption, adoption_journals, at_waits_journals, full_heap, orphan_setup, source_dies, source_dies_journals, source_setup, two_kills_setup, two_losses, two_losses_journals, masked_setup, masked_fault, masked_fault_journals, joining_place, joining_place_journals, brief_setup, brief_place, brief_place_journals}

-- a task at its birth, where so many places are known and no name has a value
abbrev fresh : ℕ → Term → Term × Vars
fresh places t = (t, no_vars places)

-- nothing is below the front
pub at_front : {w n : ℕ} {S : State} → fits w S n 0 ≡ true → IsLeastFree w S n 0
at_front e = record { here = e; least = λ b h. absurd (omega arith) }

-- four words do not fit before the end of a block of four
below_four : (b : ℕ) → b < 4 → fits 8 (after_cell opening_state (Make 4 0 1)) 4 b ≡ false
below_four zero h = refl
below_four (suc zero) h = refl
below_four (suc (suc zero)) h = refl
below_four (suc (suc (suc zero))) h = refl
below_four (suc (suc (suc (suc b)))) h = absurd (omega arith)

second_front : IsLeastFree 8 (after_cell opening_state (Make 4 0 1)) 4 4
second_front = record { here = refl; least = below_four }

-- five words fit nowhere beside the block of words 4 to 7
abbrev beside : State
beside = record { blocks = record { start = 4; generation = 2; words = pos 0 ∷ pos 0 ∷ pos 0 ∷ pos 0 ∷ [] } ∷ []; made = 2 }

too_far : (a : ℕ) → nat_le (a + 5) 8 ≡ false → fits 8 beside 5 a ≡ false
too_far a e = rw e

five_nowhere : (a : ℕ) → fits 8 beside 5 a ≡ false
five_nowhere zero = refl
five_nowhere (suc zero) = refl
five_nowhere (suc (suc zero)) = refl
five_nowhere (suc (suc (suc zero))) = refl
five_nowhere (suc (suc (suc (suc a)))) = too_far (suc (suc (suc (suc a)))) (grind (arith, nat_tests))

pub ordinary_case_runs : IsRun ordinary_script ordinary_setup ordinary_case ordinary_case_journals
ordinary_case_runs =
    record {
      folds = record { some = lit≤ tt; few = lit≤ tt; allowed = (record { task = _; stands = refl; unstruck = refl; asks = ((p 0, (refl, refl)), refl, refl) }, (record { task = _; stands = refl; unstruck = refl; asks = ((refl, refl), refl, refl, lit< tt) }, (record { task = _; stands = refl; unstruck = refl; asks = ((p 0, (refl, refl)), _, (refl, refl), refl) }, (record { task = _; stands = refl; unstruck = refl; asks = (p 0, refl) }, (record { task = _; stands = refl; unstruck = refl; asks = (p 1, (refl, refl)) }, (record { task = _; stands = refl; unstruck = refl; asks = ((p 1, (refl, refl)), refl) }, (record { task = _; stands = refl; unstruck = refl; asks = (refl, _, (refl, refl), record { is_quiet = refl; places = refl; count = refl; faults = refl }) }, (record { task = _; stands = refl; unstruck = refl; asks = (p 0, (refl, refl)) }, (record { task = _; stands = refl; unstruck = refl; asks = ((p 0, (refl, refl)), refl) }, ((_, refl, record { is_quiet = refl; places = refl; count = refl; faults = refl }), tt)))))))))); plan = (tt, (tt, (tt, (tt, (tt, (tt, (tt, (tt, (tt, (tt, tt)))))))))) };
      ends = refl;
      played = record { starts = fresh 2 (items ordinary_script [] Empty) ∷ fresh 2 (items (Then (Prints (Num (pos 7))) Nothing) (0 ∷ 0 ∷ []) Empty) ∷ []; main = refl; all = refl; each = (asks (lit≤ tt) refl tt (asks (lit≤ tt) (refl, refl, refl) refl (asks (lit≤ tt) refl tt (asks (lit≤ tt) tt tt (asks (lit≤ tt) (refl, refl) tt (ends (lit≤ tt) refl))))), ((refl, asks (lit≤ tt) (refl, refl) tt (ends (lit≤ tt) refl)), tt)) };
      one_each = refl;
      journals = (record { law = tt; homes = tt; rising = tt; closed = refl }, (record { law = tt; homes = tt; rising = tt; closed = refl }, tt));
    }

pub loss_in_transit_runs : IsRun ordinary_script kill_setup loss_in_transit loss_in_transit_journals
loss_in_transit_runs =
    record {
      folds = record { some = lit≤ tt; few = lit≤ tt; allowed = (record { task = _; stands = refl; unstruck = refl; asks = ((p 0, (refl, refl)), refl, refl) }, (record { task = _; stands = refl; unstruck = refl; asks = ((refl, refl), refl, refl, lit< tt) }, (record { task = _; stands = refl; unstruck = refl; asks = ((p 0, (refl, refl)), _, (refl, refl), refl) }, ((lit< tt, (λ e. cc), refl), (record { task = _; stands = refl; unstruck = refl; asks = (refl, _, (refl, refl), record { is_quiet = refl; places = refl; count = refl; faults = refl }) }, (record { task = _; stands = refl; unstruck = refl; asks = ((p 0, (refl, refl)), refl) }, ((_, refl, record { is_quiet = refl; places = refl; count = refl; faults = refl }), tt))))))); plan = (lit< tt, (lit< tt, (lit< tt, ((refl, lit≤ tt), (tt, (tt, (tt, tt))))))) };
      ends = refl;
      played = record { starts = fresh 2 (items ordinary_script [] Empty) ∷ fresh 2 (items (Then (Prints (Num (pos 7))) Nothing) (0 ∷ 0 ∷ []) Empty) ∷ []; main = refl; all = refl; each = (asks (lit≤ tt) refl tt (asks (lit≤ tt) (refl, refl, refl) refl (asks (lit≤ tt) refl tt (asks (lit≤ tt) tt tt (ends (lit≤ tt) refl)))), (refl, tt)) };
      one_each = refl;
      journals = (record { law = tt; homes = tt; rising = tt; closed = refl }, (record { law = refl; homes = tt; rising = (lit≤ tt, tt); closed = refl }, tt));
    }

pub adoption_runs : IsRun adoption_script adoption_setup adoption adoption_journals
adoption_runs =
    record {
      folds = record { some = lit≤ tt; few = lit≤ tt; allowed = (record { task = _; stands = refl; unstruck = refl; asks = ((p 0, (refl, refl)), refl, refl) }, (record { task = _; stands = refl; unstruck = refl; asks = ((refl, refl), refl, refl, lit< tt) }, (record { task = _; stands = refl; unstruck = refl; asks = ((p 0, (refl, refl)), _, (refl, refl), refl) }, (record { task = _; stands = refl; unstruck = refl; asks = (p 0, refl) }, (record { task = _; stands = refl; unstruck = refl; asks = ((p 1, (refl, refl)), refl, refl) }, (record { task = _; stands = refl; unstruck = refl; asks = ((refl, refl), refl, refl, lit< tt) }, (record { task = _; stands = refl; unstruck = refl; asks = ((p 1, (refl, refl)), _, (refl, refl), refl) }, (record { task = _; stands = refl; unstruck = refl; asks = (p 1, refl) }, (record { task = _; stands = refl; unstruck = refl; asks = ((p 2, (refl, refl)), refl, refl) }, (record { task = _; stands = refl; unstruck = refl; asks = ((refl, refl), refl, refl, lit< tt) }, (record { task = _; stands = refl; unstruck = refl; asks = ((p 2, (refl, refl)), _, (refl, refl), refl) }, (record { task = _; stands = refl; unstruck = refl; asks = (p 2, refl) }, ((lit< tt, (λ e. cc), refl), (record { task = _; stands = refl; unstruck = refl; asks = (p 3, (refl, refl)) }, (record { task = _; stands = refl; unstruck = refl; asks = ((p 3, (refl, refl)), refl) }, (record { task = _; stands = refl; unstruck = refl; asks = (refl, _, (refl, refl), record { is_quiet = refl; places = refl; count = refl; faults = refl }) }, (record { task = _; stands = refl; unstruck = refl; asks = ((p 1, (refl, refl)), refl) }, (record { task = _; stands = refl; unstruck = refl; asks = (refl, _, (refl, refl), record { is_quiet = refl; places = refl; count = refl; faults = refl }) }, (record { task = _; stands = refl; unstruck = refl; asks = (p 0, (refl, refl)) }, (record { task = _; stands = refl; unstruck = refl; asks = ((p 0, (refl, refl)), refl) }, ((_, refl, record { is_quiet = refl; places = refl; count = refl; faults = refl }), tt))))))))))))))))))))); plan = (lit< tt, (lit< tt, (lit< tt, (lit< tt, (lit< tt, (lit< tt, (lit< tt, (lit< tt, (lit< tt, (lit< tt, (lit< tt, (lit< tt, ((refl, lit≤ tt), (tt, (tt, (tt, (tt, (tt, (tt, (tt, (tt, tt))))))))))))))))))))) };
      ends = refl;
      played = record { starts = fresh 4 (items adoption_script [] Empty) ∷ fresh 4 (items (Then (Finish (Then (AtAsync (Num (pos 2)) (Then (Finish (Then (AtAsync (Num (pos 3)) (Then (Prints (Num (pos 1))) Nothing)) Nothing)) Nothing)) Nothing)) Nothing) (0 ∷ 0 ∷ 0 ∷ 0 ∷ []) Empty) ∷ fresh 4 (items (Then (Finish (Then (AtAsync (Num (pos 3)) (Then (Prints (Num (pos 1))) Nothing)) Nothing)) Nothing) (0 ∷ 0 ∷ 0 ∷ 0 ∷ 0 ∷ 0 ∷ []) Empty) ∷ fresh 4 (items (Then (Prints (Num (pos 1))) Nothing) (0 ∷ 0 ∷ 0 ∷ 0 ∷ 0 ∷ 0 ∷ 0 ∷ 0 ∷ []) Empty) ∷ []; main = refl; all = refl; each = (local refl (asks (lit≤ tt) refl tt (asks (lit≤ tt) (refl, refl, refl) refl (asks (lit≤ tt) refl tt (asks (lit≤ tt) tt tt (local refl (asks (lit≤ tt) (refl, refl) tt (ends (lit≤ tt) refl))))))), ((refl, asks (lit≤ tt) refl tt (asks (lit≤ tt) (refl, refl, refl) refl (asks (lit≤ tt) refl tt (asks (lit≤ tt) tt tt (ends (lit≤ tt) refl))))), ((refl, asks (lit≤ tt) refl tt (asks (lit≤ tt) (refl, refl, refl) refl (asks (lit≤ tt) refl tt (stops)))), ((refl, asks (lit≤ tt) (refl, refl) tt (ends (lit≤ tt) refl)), tt)))) };
      one_each = refl;
      journals = (record { law = tt; homes = tt; rising = tt; closed = refl }, (record { law = tt; homes = tt; rising = tt; closed = refl }, (record { law = refl; homes = tt; rising = (lit≤ tt, tt); closed = refl }, (record { law = tt; homes = tt; rising = tt; closed = refl }, tt))));
    }

pub two_losses_runs : IsRun adoption_script two_kills_setup two_losses two_losses_journals
two_losses_runs =
    record {
      folds = record { some = lit≤ tt; few = lit≤ tt; allowed = (record { task = _; stands = refl; unstruck = refl; asks = ((p 0, (refl, refl)), refl, refl) }, (record { task = _; stands = refl; unstruck = refl; asks = ((refl, refl), refl, refl, lit< tt) }, (record { task = _; stands = refl; unstruck = refl; asks = ((p 0, (refl, refl)), _, (refl, refl), refl) }, (record { task = _; stands = refl; unstruck = refl; asks = (p 0, refl) }, (record { task = _; stands = refl; unstruck = refl; asks = ((p 1, (refl, refl)), refl, refl) }, (record { task = _; stands = refl; unstruck = refl; asks = ((refl, refl), refl, refl, lit< tt) }, (record { task = _; stands = refl; unstruck = refl; asks = ((p 1, (refl, refl)), _, (refl, refl), refl) }, (record { task = _; stands = refl; unstruck = refl; asks = (p 1, refl) }, (record { task = _; stands = refl; unstruck = refl; asks = ((p 2, (refl, refl)), refl, refl) }, (record { task = _; stands = refl; unstruck = refl; asks = ((refl, refl), refl, refl, lit< tt) }, (record { task = _; stands = refl; unstruck = refl; asks = ((p 2, (refl, refl)), _, (refl, refl), refl) }, (record { task = _; stands = refl; unstruck = refl; asks = (p 2, refl) }, ((lit< tt, (λ e. cc), refl), ((lit< tt, (λ e. cc), refl), (record { task = _; stands = refl; unstruck = refl; asks = (refl, _, (refl, refl), record { is_quiet = refl; places = refl; count = refl; faults = refl }) }, (record { task = _; stands = refl; unstruck = refl; asks = ((p 1, (refl, refl)), refl) }, (record { task = _; stands = refl; unstruck = refl; asks = (refl, _, (refl, refl), record { is_quiet = refl; places = refl; count = refl; faults = refl }) }, (record { task = _; stands = refl; unstruck = refl; asks = (p 0, (refl, refl)) }, (record { task = _; stands = refl; unstruck = refl; asks = ((p 0, (refl, refl)), refl) }, ((_, refl, record { is_quiet = refl; places = refl; count = refl; faults = refl }), tt)))))))))))))))))))); plan = (lit< tt, (lit< tt, (lit< tt, (lit< tt, (lit< tt, (lit< tt, (lit< tt, (lit< tt, (lit< tt, (lit< tt, (lit< tt, (lit< tt, ((refl, lit≤ tt), ((refl, lit≤ tt), (tt, (tt, (tt, (tt, (tt, (tt, tt)))))))))))))))))))) };
      ends = refl;
      played = record { starts = fresh 4 (items adoption_script [] Empty) ∷ fresh 4 (items (Then (Finish (Then (AtAsync (Num (pos 2)) (Then (Finish (Then (AtAsync (Num (pos 3)) (Then (Prints (Num (pos 1))) Nothing)) Nothing)) Nothing)) Nothing)) Nothing) (0 ∷ 0 ∷ 0 ∷ 0 ∷ []) Empty) ∷ fresh 4 (items (Then (Finish (Then (AtAsync (Num (pos 3)) (Then (Prints (Num (pos 1))) Nothing)) Nothing)) Nothing) (0 ∷ 0 ∷ 0 ∷ 0 ∷ 0 ∷ 0 ∷ []) Empty) ∷ fresh 4 (items (Then (Prints (Num (pos 1))) Nothing) (0 ∷ 0 ∷ 0 ∷ 0 ∷ 0 ∷ 0 ∷ 0 ∷ 0 ∷ []) Empty) ∷ []; main = refl; all = refl; each = (local refl (asks (lit≤ tt) refl tt (asks (lit≤ tt) (refl, refl, refl) refl (asks (lit≤ tt) refl tt (asks (lit≤ tt) tt tt (local refl (asks (lit≤ tt) (refl, refl) tt (ends (lit≤ tt) refl))))))), ((refl, asks (lit≤ tt) refl tt (asks (lit≤ tt) (refl, refl, refl) refl (asks (lit≤ tt) refl tt (asks (lit≤ tt) tt tt (ends (lit≤ tt) refl))))), ((refl, asks (lit≤ tt) refl tt (asks (lit≤ tt) (refl, refl, refl) refl (asks (lit≤ tt) refl tt (stops)))), ((refl, stops), tt)))) };
      one_each = refl;
      journals = (record { law = tt; homes = tt; rising = tt; closed = refl }, (record { law = tt; homes = tt; rising = tt; closed = refl }, (record { law = refl; homes = tt; rising = (lit≤ tt, tt); closed = refl }, (record { law = refl; homes = tt; rising = (lit≤ tt, tt); closed = refl }, tt))));
    }

pub at_waits_runs : IsRun orphan_script orphan_setup at_waits at_waits_journals
at_waits_runs =
    record {
      folds = record { some = lit≤ tt; few = lit≤ tt; allowed = (record { task = _; stands = refl; unstruck = refl; asks = ((refl, refl), refl, refl, refl, lit< tt) }, (record { task = _; stands = refl; unstruck = refl; asks = (p 0, refl) }, (record { task = _; stands = refl; unstruck = refl; asks = ((p 1, (refl, refl)), refl, refl) }, (record { task = _; stands = refl; unstruck = refl; asks = ((refl, refl), refl, refl, lit< tt) }, (record { task = _; stands = refl; unstruck = refl; asks = ((p 1, (refl, refl)), _, (refl, refl), refl) }, (record { task = _; stands = refl; unstruck = refl; asks = (p 1, refl) }, ((lit< tt, (λ e. cc), refl), (record { task = _; stands = refl; unstruck = refl; asks = (p 2, (refl, refl)) }, (record { task = _; stands = refl; unstruck = refl; asks = ((p 2, (refl, refl)), refl) }, (record { task = _; stands = refl; unstruck = refl; asks = (refl, _, (refl, refl), record { is_quiet = refl; places = refl; count = refl; faults = refl }) }, (record { task = _; stands = refl; unstruck = refl; asks = (p 0, (refl, refl)) }, (record { task = _; stands = refl; unstruck = refl; asks = (p 0, (refl, refl)) }, (record { task = _; stands = refl; unstruck = refl; asks = ((p 0, (refl, refl)), refl) }, ((_, refl, record { is_quiet = refl; places = refl; count = refl; faults = refl }), tt)))))))))))))); plan = (lit< tt, (lit< tt, (lit< tt, (lit< tt, (lit< tt, (lit< tt, ((refl, lit≤ tt), (tt, (tt, (tt, (tt, (tt, (tt, (tt, tt)))))))))))))) };
      ends = refl;
      played = record { starts = fresh 3 (items orphan_script [] Empty) ∷ fresh 3 (items (Then (Finish (Then (AtAsync (Num (pos 2)) (Then (Prints (Num (pos 1))) Nothing)) Nothing)) Nothing) (0 ∷ 0 ∷ 0 ∷ []) Empty) ∷ fresh 3 (items (Then (Prints (Num (pos 1))) Nothing) (0 ∷ 0 ∷ 0 ∷ 0 ∷ 0 ∷ []) Empty) ∷ []; main = refl; all = refl; each = (local refl (asks (lit≤ tt) (refl, refl, refl) refl (asks (lit≤ tt) tt tt (local refl (asks (lit≤ tt) (refl, refl) tt (asks (lit≤ tt) (refl, refl) tt (ends (lit≤ tt) refl)))))), ((refl, asks (lit≤ tt) refl tt (asks (lit≤ tt) (refl, refl, refl) refl (asks (lit≤ tt) refl tt (stops)))), ((refl, asks (lit≤ tt) (refl, refl) tt (ends (lit≤ tt) refl)), tt))) };
      one_each = refl;
      journals = (record { law = tt; homes = tt; rising = tt; closed = refl }, (record { law = refl; homes = tt; rising = (lit≤ tt, tt); closed = refl }, (record { law = tt; homes = tt; rising = tt; closed = refl }, tt)));
    }

pub source_dies_runs : IsRun source_script source_setup source_dies source_dies_journals
source_dies_runs =
    record {
      folds = record { some = lit≤ tt; few = lit≤ tt; allowed = (record { task = _; stands = refl; unstruck = refl; asks = ((p 0, (refl, refl)), refl, refl) }, (record { task = _; stands = refl; unstruck = refl; asks = ((refl, refl), refl, refl, lit< tt) }, (record { task = _; stands = refl; unstruck = refl; asks = ((p 0, (refl, refl)), _, (refl, refl), refl) }, (record { task = _; stands = refl; unstruck = refl; asks = (p 0, refl) }, (record { task = _; stands = refl; unstruck = refl; asks = ((refl, refl), refl, refl, lit< tt) }, (record { task = _; stands = refl; unstruck = refl; asks = ((p 1, (refl, refl)), refl) }, ((lit< tt, (λ e. cc), refl), (record { task = _; stands = refl; unstruck = refl; asks = (refl, _, (refl, refl), record { is_quiet = refl; places = refl; count = refl; faults = refl }) }, (record { task = _; stands = refl; unstruck = refl; asks = (p 0, (refl, refl)) }, (record { task = _; stands = refl; unstruck = refl; asks = ((p 0, (refl, refl)), refl) }, ((_, refl, record { is_quiet = refl; places = refl; count = refl; faults = refl }), tt))))))))))); plan = (lit< tt, (lit< tt, (lit< tt, (lit< tt, (lit< tt, (lit< tt, ((refl, lit≤ tt), (tt, (tt, (tt, (tt, tt))))))))))) };
      ends = refl;
      played = record { starts = fresh 3 (items source_script [] Empty) ∷ fresh 3 (items (Then (AtAsync (Num (pos 2)) (Then (Prints (Num (pos 1))) Nothing)) Nothing) (0 ∷ 0 ∷ 0 ∷ 0 ∷ []) Empty) ∷ fresh 3 (items (Then (Prints (Num (pos 1))) Nothing) (0 ∷ 0 ∷ 0 ∷ 0 ∷ 0 ∷ []) Empty) ∷ []; main = refl; all = refl; each = (local refl (asks (lit≤ tt) refl tt (asks (lit≤ tt) (refl, refl, refl) refl (asks (lit≤ tt) refl tt (asks (lit≤ tt) tt tt (local refl (asks (lit≤ tt) (refl, refl) tt (ends (lit≤ tt) refl))))))), ((refl, asks (lit≤ tt) (refl, refl, refl) refl (ends (lit≤ tt) refl)), (refl, tt))) };
      one_each = refl;
      journals = (record { law = tt; homes = tt; rising = tt; closed = refl }, (record { law = refl; homes = tt; rising = (lit≤ tt, tt); closed = refl }, (record { law = tt; homes = tt; rising = tt; closed = refl }, tt)));
    }

pub stale_reference_runs : IsRun stale_script ordinary_setup stale_reference stale_reference_journals
stale_reference_runs =
    record {
      folds = record { some = lit≤ tt; few = lit≤ tt; allowed = (record { task = _; stands = refl; unstruck = refl; asks = ((p 0, (refl, refl)), refl) }, ((_, refl, record { is_quiet = refl; places = refl; count = refl; faults = refl }), tt)); plan = (tt, (tt, tt)) };
      ends = refl;
      played = record { starts = fresh 2 (items stale_script [] Empty) ∷ []; main = refl; all = refl; each = (stores (Gives 0 (Ref (record { home = p 0; start = 0; generation = 1 }))) (lit≤ tt) (refl, refl) refl (stores (Fine) (lit≤ tt) (refl, refl) refl (stores (Gives 1 (Ref (record { home = p 0; start = 0; generation = 2 }))) (lit≤ tt) (refl, refl) refl (stores (Fails Stale) (lit≤ tt) (refl, refl, refl) refl (ends (lit≤ tt) refl)))), tt) };
      one_each = refl;
      journals = (record { law = ((at_front refl, refl), ((_, refl), ((at_front refl, refl), (refl, tt)))); homes = (lit< tt, refl, (lit< tt, refl, (lit< tt, refl, (lit< tt, refl, tt)))); rising = (lit≤ tt, (lit≤ tt, (lit≤ tt, (lit≤ tt, tt)))); closed = refl }, (record { law = tt; homes = tt; rising = tt; closed = refl }, tt));
    }

pub full_heap_runs : IsRun full_script full_setup full_heap full_heap_journals
full_heap_runs =
    record {
      folds = record { some = lit≤ tt; few = lit≤ tt; allowed = (record { task = _; stands = refl; unstruck = refl; asks = (p 0, (refl, refl)) }, (record { task = _; stands = refl; unstruck = refl; asks = ((p 0, (refl, refl)), refl) }, ((_, refl, record { is_quiet = refl; places = refl; count = refl; faults = refl }), tt))); plan = (tt, (tt, (tt, tt))) };
      ends = refl;
      played = record { starts = fresh 2 (items full_script [] Empty) ∷ []; main = refl; all = refl; each = (stores (Gives 0 (Ref (record { home = p 0; start = 0; generation = 1 }))) (lit≤ tt) (refl, refl) refl (stores (Gives 1 (Ref (record { home = p 0; start = 4; generation = 2 }))) (lit≤ tt) (refl, refl) refl (stores (Fine) (lit≤ tt) (refl, refl) refl (local refl (stores (Fails HeapFull) (lit≤ tt) (refl, refl) refl (local refl (asks (lit≤ tt) (refl, refl) tt (stores (Gives 3 (Ref (record { home = p 0; start = 0; generation = 3 }))) (lit≤ tt) (refl, refl) refl (ends (lit≤ tt) refl)))))))), tt) };
      one_each = refl;
      journals = (record { law = ((at_front refl, refl), ((second_front, refl), ((_, refl), (five_nowhere, ((at_front refl, refl), tt))))); homes = (lit< tt, refl, (lit< tt, refl, (lit< tt, refl, (lit< tt, refl, (lit< tt, refl, tt))))); rising = (lit≤ tt, (lit≤ tt, (lit≤ tt, (lit≤ tt, (lit≤ tt, tt))))); closed = refl }, (record { law = tt; homes = tt; rising = tt; closed = refl }, tt));
    }

pub masked_fault_runs : IsRun masked_script masked_setup masked_fault masked_fault_journals
masked_fault_runs =
    record {
      folds = record { some = lit≤ tt; few = lit≤ tt; allowed = (record { task = _; stands = refl; unstruck = refl; asks = ((p 0, (refl, refl)), refl, refl) }, (record { task = _; stands = refl; unstruck = refl; asks = ((refl, refl), refl, refl, lit< tt) }, (record { task = _; stands = refl; unstruck = refl; asks = ((p 0, (refl, refl)), _, (refl, refl), refl) }, (record { task = _; stands = refl; unstruck = refl; asks = (p 0, refl) }, (record { task = _; stands = refl; unstruck = refl; asks = ((p 1, (refl, refl)), refl, refl) }, (record { task = _; stands = refl; unstruck = refl; asks = ((refl, refl), refl, refl, lit< tt) }, (record { task = _; stands = refl; unstruck = refl; asks = ((p 1, (refl, refl)), _, (refl, refl), refl) }, (record { task = _; stands = refl; unstruck = refl; asks = (p 1, refl) }, ((lit< tt, (λ e. cc), refl), (record { task = _; stands = refl; unstruck = refl; asks = ((p 2, (refl, refl)), refl) }, (record { task = _; stands = refl; unstruck = refl; asks = (refl, _, (refl, refl), record { is_quiet = refl; places = refl; count = refl; faults = refl }) }, (record { task = _; stands = refl; unstruck = refl; asks = (p 0, (refl, refl)) }, (record { task = _; stands = refl; unstruck = refl; asks = ((p 0, (refl, refl)), refl) }, ((_, refl, record { is_quiet = refl; places = refl; count = refl; faults = refl }), tt)))))))))))))); plan = (lit< tt, (lit< tt, (lit< tt, (lit< tt, (lit< tt, (lit< tt, (lit< tt, (lit< tt, ((refl, lit≤ tt), (tt, (tt, (tt, (tt, (tt, tt)))))))))))))) };
      ends = refl;
      played = record {
        starts =
            fresh 3 (items masked_script [] Empty)
            ∷ fresh 3 (items (Then (Finish (Then (AtAsync (Num (pos 2)) (Then (Throw (Num (pos 5))) Nothing)) Nothing)) Nothing) (0 ∷ 0 ∷ 0 ∷ 0 ∷ []) Empty)
            ∷ fresh 3 (items (Then (Throw (Num (pos 5))) Nothing) (0 ∷ 0 ∷ 0 ∷ 0 ∷ 0 ∷ 0 ∷ []) Empty)
            ∷ [];
        main = refl;
        all = refl;
        each = (
          local refl (asks (lit≤ tt) refl tt (asks (lit≤ tt) (refl, refl, refl) refl (asks (lit≤ tt) refl tt (asks (lit≤ tt) tt tt (local refl (asks (lit≤ tt) (refl, refl) tt (ends (lit≤ tt) refl))))))),
          (
            (refl, asks (lit≤ tt) refl tt (asks (lit≤ tt) (refl, refl, refl) refl (asks (lit≤ tt) refl tt stops))),
            ((refl, local refl (ends (lit≤ tt) refl)), tt),
          ),
        );
      };
      one_each = refl;
      journals = (record { law = tt; homes = tt; rising = tt; closed = refl }, (record { law = refl; homes = tt; rising = (lit≤ tt, tt); closed = refl }, (record { law = tt; homes = tt; rising = tt; closed = refl }, tt)));
    }

pub joining_place_runs : IsRun joining_script joining_setup joining_place joining_place_journals
joining_place_runs =
    record {
      folds = record { some = lit≤ tt; few = lit≤ tt; allowed = (record { task = _; stands = refl; unstruck = refl; asks = (p 0, (refl, refl)) }, ((refl, lit≤ tt), (record { task = _; stands = refl; unstruck = refl; asks = ((p 0, (refl, refl)), refl) }, (record { task = _; stands = refl; unstruck = refl; asks = ((refl, refl), refl, refl, lit< tt) }, (record { task = _; stands = refl; unstruck = refl; asks = ((p 0, (refl, refl)), refl) }, (record { task = _; stands = refl; unstruck = refl; asks = (p 0, refl) }, (record { task = _; stands = refl; unstruck = refl; asks = (p 1, (refl, refl)) }, (record { task = _; stands = refl; unstruck = refl; asks = ((p 1, (refl, refl)), refl) }, ((_, refl, record { is_quiet = refl; places = refl; count = refl; faults = refl }), tt))))))))); plan = (lit< tt, ((refl, lit≤ tt), (tt, (tt, (tt, (tt, (tt, (tt, (tt, tt))))))))) };
      ends = refl;
      played = record {
        starts =
            fresh 1 (items joining_script [] Empty)
            ∷ (items (Then (Prints Here) Nothing) (2 ∷ []) Empty, record (bound 0 (Number (pos 2)) (no_vars 1)) { places = 2 })
            ∷ [];
        main = refl;
        all = refl;
        each = (
          asks (lit≤ tt) (refl, refl) tt (asks (lit≤ tt) refl tt (asks (lit≤ tt) (refl, refl, refl) refl (ends (lit≤ tt) refl))),
          ((refl, asks (lit≤ tt) (refl, refl) tt (ends (lit≤ tt) refl)), tt),
        );
      };
      one_each = refl;
      journals = (record { law = tt; homes = tt; rising = tt; closed = refl }, (record { law = tt; homes = tt; rising = tt; closed = refl }, tt));
    }

pub brief_place_runs : IsRun Nothing brief_setup brief_place brief_place_journals
brief_place_runs =
    record {
      folds = record { some = lit≤ tt; few = lit≤ tt; allowed = ((refl, lit≤ tt), ((lit< tt, (λ e. cc), refl), (record { task = _; stands = refl; unstruck = refl; asks = ((p 0, (refl, refl)), refl) }, ((_, refl, record { is_quiet = refl; places = refl; count = refl; faults = refl }), tt)))); plan = ((refl, lit≤ tt), ((refl, lit≤ tt), (tt, (tt, tt)))) };
      ends = refl;
      played = record { starts = fresh 2 (items Nothing [] Empty) ∷ []; main = refl; all = refl; each = (ends (lit≤ tt) refl, tt) };
      one_each = refl;
      journals = (record { law = tt; homes = tt; rising = tt; closed = refl }, (record { law = tt; homes = tt; rising = tt; closed = refl }, (record { law = refl; homes = tt; rising = (lit≤ tt, tt); closed = refl }, tt)));
    }
