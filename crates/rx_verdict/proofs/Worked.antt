-- The worked journals are lawful as far as they are told to be.
use Rattle.std.proofs.Common.{◌≡◌, ℕ, true, [], refl, sym, arith}
use Rattle.std.proofs.lemmas.Bool.{true≢false}
use Rattle.rx_rules.proofs.Common.{journal_at, State, IsLeastFree, fits, stale_reference_journals, full_heap_journals}
use Rattle.rx_rules.proofs.Worked.{stale_reference_runs, full_heap_runs}
use Rattle.rx_verdict.specs.Lawful.{AreLawful, IsLawfulCount}
use Rattle.rx_verdict.specs.Worked.{WorkedCounts, called_outside, made_of_nothing, fallen_stamp, asked_when_closed}

front : {w n : ℕ} {S : State} → fits w S n 0 ≡ true → IsLeastFree w S n 0
front h = record { here = h; least = λ b l. absurd (omega arith) }

stale : IsLawfulCount 256 (journal_at stale_reference_journals 0) 4
stale = record {
  within = omega arith;
  lawful = record { law = stale_reference_runs.journals.0.law; rising = stale_reference_runs.journals.0.rising; some = (omega arith, (tt, (omega arith, (tt, tt)))) };
  no_more = λ l more. absurd (omega arith);
}

full : IsLawfulCount 8 (journal_at full_heap_journals 0) 5
full = record {
  within = omega arith;
  lawful = record { law = full_heap_runs.journals.0.law; rising = full_heap_runs.journals.0.rising; some = (omega arith, (omega arith, (tt, (omega arith, (omega arith, tt))))) };
  no_more = λ l more. absurd (omega arith);
}

none : (w : ℕ) → AreLawful w []
none w = record { law = tt; rising = tt; some = tt }

two_words : IsLawfulCount 2 (journal_at stale_reference_journals 0) 0
two_words = record {
  within = omega arith;
  lawful = none 2;
  no_more = λ l more. true≢false (sym more.law.0.0.here);
}

outside : IsLawfulCount 256 called_outside 3
outside = record {
  within = omega arith;
  lawful = record { law = ((front refl, refl), ((_, refl), ((front refl, refl), tt))); rising = (omega arith, (omega arith, (omega arith, tt))); some = (omega arith, (tt, (omega arith, tt))) };
  no_more = λ l more. let found = more.law.1.1.1.0 in let e = found.1 in cc;
}

nothing : IsLawfulCount 256 made_of_nothing 0
nothing = record {
  within = omega arith;
  lawful = none 256;
  no_more = λ l more. let some = more.some.0 in omega arith;
}

fallen : IsLawfulCount 8 fallen_stamp 1
fallen = record {
  within = omega arith;
  lawful = record { law = ((front refl, refl), tt); rising = (omega arith, tt); some = (omega arith, tt) };
  no_more = λ l more. let low = more.rising.1.0 in omega arith;
}

closed : IsLawfulCount 8 asked_when_closed 1
closed = record {
  within = omega arith;
  lawful = record { law = refl; rising = (omega arith, tt); some = (tt, tt) };
  no_more = λ l more. let e = more.law in cc;
}

pub worked_counts : WorkedCounts
worked_counts = record { stale_reference = stale; full_heap = full; two_words = two_words; outside = outside; nothing = nothing; fallen = fallen; closed = closed }
