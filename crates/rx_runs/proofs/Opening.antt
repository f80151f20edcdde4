-- The game before the first turn.
use Rattle.rx_rules.proofs.Common.{Vars, no_vars, Term, Empty, items, journal_at, cell_of, birth_of, opening_state, opening, Given, in_all}
use Rattle.std.proofs.Common.{◌≡◌, ℕ, zero, suc, ◌≤◌, List, [], ◌∷◌, replicate, refl, ap, sym, subst, arith, inl}
use Rattle.std.specs.List.{filter_map}
use Rattle.std.proofs.lemmas.List.{length-replicate}
use Rattle.rx_rules.specs.declared.events.Cell.{Cell}
use Rattle.rx_tree_laws.proofs.Histories.{no_dead}
use Rattle.rx_runs.specs.Ties.{Ties}
use Rattle.rx_runs.specs.Segments.{stays}
use Rattle.rx_runs.specs.Games.{TaskSo, going, Pairs, JournalSo, StartsOk, fresh, rests}
use Rattle.rx_runs.proofs.Plans.{plan_comes}

no_journal : (n p : ℕ) → journal_at (replicate n []) p ≡ []
no_journal zero p = refl
no_journal (suc n) zero = refl
no_journal (suc n) (suc p) = no_journal n p

all_empty : (U : Given) (p n : ℕ) → Pairs (JournalSo U []) p (replicate n []) (replicate n opening_state)
all_empty U p zero = tt
all_empty U p (suc n) = (record { law = tt; live = λ e. rests; homes = tt; rising = tt; top = tt; closed = refl }, all_empty U (suc p) n)

first_ties : (q places : ℕ) → places ≤ q → Ties q 1 [] (opening places)
first_ties q places le =
    record {
      rows = (omega arith, λ e. record { place = (refl, refl); going = refl; lives = refl }, tt);
      deaths = λ p h. no_dead 16 p.0;
      sixteen = refl;
      within = le;
      unborn = λ t h. refl;
      unmoved = λ t h. refl;
    }

pub starts_ok : StartsOk
starts_ok code U proper =
    let first : Term × Vars = (items code [] Empty, no_vars U.places) in
    let none : List (ℕ × Cell × List ℕ) = [] in
    let cells : filter_map (cell_of 0) (journal_at (replicate (in_all U) []) 0) ≡ [] = ap (filter_map (cell_of 0)) (no_journal (in_all U) 0) in
    record {
      starts = first ∷ [];
      main = refl;
      all = refl;
      folds = record { some = proper.some; few = (let some : in_all U ≤ 16 = proper.few in omega arith); allowed = tt; plan = tt };
      few = proper.few;
      left = refl;
      no_root = tt;
      each = (subst (λ (cs : List (ℕ × Cell × List ℕ)). TaskSo (first ∷ []) 0 (birth_of [] 0) first cs [] (fresh first)) (sym cells) (going 0 0 [] (inl (refl, refl, refl)) stays (omega arith)), tt);
      one_each = length-replicate (in_all U) [];
      journals = all_empty U 0 (in_all U);
      plan = plan_comes U proper;
      ties = first_ties (in_all U) U.places (omega arith);
      silent = λ t p h. ap (filter_map (cell_of t)) (no_journal (in_all U) p);
    }
