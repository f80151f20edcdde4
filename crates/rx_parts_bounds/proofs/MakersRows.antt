-- The history of two tasks that make blocks at one place is parts.
use Rattle.std.proofs.Common.{ℕ, zero, suc, [], ◌∷◌, ◌++◌, slice_get, refl, lit<, lit≤, subst}
use Rattle.std.specs.List.{filter_map}
use mathlib.Core.List.{IsPrefix}
use Rattle.rx_rules.proofs.Common.{Ref, Answer, Gives, cell_of, journal_at, t, p}
use Rattle.rx_parts.specs.Ledger.{Actor, stays, stores, hosts, asks, ends, LegalLedger}
use Rattle.rx_parts.specs.Places.{LegalPlace}
use Rattle.rx_parts.specs.Parts.{AreParts, AllNamed, journals_of}
use Rattle.rx_parts_bounds.specs.Examples.{makers_script, makers_setup, makers_start, makers_print, makers_end, makers_events}
use Rattle.rx_parts.proofs.Prefixes.{prefix-legal}
use Rattle.rx_parts.proofs.Lists.{one_item}

-- the reference of task 0, and that of task 1
abbrev first_block : Answer
first_block = Gives 1 (Ref (record { home = p 0; start = 0; generation = 1 }))

abbrev other_block : Answer
other_block = Gives 0 (Ref (record { home = p 0; start = 2; generation = 2 }))

abbrev pub makers_legal : LegalLedger makers_script makers_setup ((makers_start ++ makers_print) ++ makers_end)
makers_legal =
    record {
      folds = record {
        some = lit≤ tt;
        few = lit≤ tt;
        allowed = (
          record { task = _; stands = refl; unstruck = refl; asks = ((p 0, (refl, refl)), refl, refl) },
          (
            record { task = _; stands = refl; unstruck = refl; asks = ((refl, refl), refl, refl, lit< tt) },
            (
              record { task = _; stands = refl; unstruck = refl; asks = (p 0, (refl, refl)) },
              (
                record { task = _; stands = refl; unstruck = refl; asks = (p 0, (refl, refl)) },
                (
                  record { task = _; stands = refl; unstruck = refl; asks = ((p 0, (refl, refl)), refl) },
                  (
                    record { task = _; stands = refl; unstruck = refl; asks = ((p 0, (refl, refl)), _, (refl, refl), refl) },
                    (
                      record { task = _; stands = refl; unstruck = refl; asks = (refl, _, (refl, refl), record { is_quiet = refl; places = refl; count = refl; faults = refl }) },
                      (
                        record { task = _; stands = refl; unstruck = refl; asks = ((p 0, (refl, refl)), refl) },
                        ((_, refl, record { is_quiet = refl; places = refl; count = refl; faults = refl }), tt),
                      ),
                    ),
                  ),
                ),
              ),
            ),
          ),
        );
        plan = (tt, (tt, (tt, (tt, (tt, (tt, (tt, (tt, (tt, tt)))))))));
      };
      last = refl;
      actors = _;
      made = (
        _,
        asks (t 0) _ _ _ refl refl refl refl stays (lit≤ tt) refl,
        (
          _,
          asks (t 0) _ _ _ refl refl refl refl stays (lit≤ tt) (refl, refl, refl),
          (
            _,
            asks (t 1) _ _ _ refl refl refl refl (stores other_block (lit≤ tt) (refl, refl) refl stays) (lit≤ tt) (refl, refl),
            (
              _,
              asks (t 0) _ _ _ refl refl refl refl (stores first_block (lit≤ tt) (refl, refl) refl stays) (lit≤ tt) (refl, refl),
              (
                _,
                ends (t 1) _ _ _ refl refl refl refl stays (lit≤ tt) refl,
                (
                  _,
                  asks (t 0) _ _ _ refl refl refl refl stays (lit≤ tt) refl,
                  (
                    _,
                    asks (t 0) _ _ _ refl refl refl refl stays (lit≤ tt) tt,
                    (
                      _,
                      ends (t 0) _ _ _ refl refl refl refl stays (lit≤ tt) refl,
                      (_, hosts tt, refl),
                    ),
                  ),
                ),
              ),
            ),
          ),
        ),
      );
    }

abbrev pub start_legal : LegalLedger makers_script makers_setup makers_start
start_legal =
    record {
      folds = (prefix-legal makers_script makers_setup makers_start (makers_print ++ makers_end) makers_legal).folds;
      last = tt;
      actors = _;
      made = (
        _,
        asks (t 0) _ _ _ refl refl refl refl stays (lit≤ tt) refl,
        (_, asks (t 0) _ _ _ refl refl refl refl stays (lit≤ tt) (refl, refl, refl), refl),
      );
    }

abbrev pub printed_legal : LegalLedger makers_script makers_setup (makers_start ++ makers_print)
printed_legal =
    record {
      folds = (prefix-legal makers_script makers_setup (makers_start ++ makers_print) makers_end makers_legal).folds;
      last = tt;
      actors = _;
      made = (
        _,
        asks (t 0) _ _ _ refl refl refl refl stays (lit≤ tt) refl,
        (
          _,
          asks (t 0) _ _ _ refl refl refl refl stays (lit≤ tt) (refl, refl, refl),
          (
            _,
            asks (t 1) _ _ _ refl refl refl refl (stores other_block (lit≤ tt) (refl, refl) refl stays) (lit≤ tt) (refl, refl),
            (
              _,
              asks (t 0) _ _ _ refl refl refl refl (stores first_block (lit≤ tt) (refl, refl) refl stays) (lit≤ tt) (refl, refl),
              (_, ends (t 1) _ _ _ refl refl refl refl stays (lit≤ tt) refl, refl),
            ),
          ),
        ),
      );
    }

makers_place : LegalPlace makers_script makers_setup 0 makers_events
makers_place = (
  record { legal = start_legal; actor = _; stands = refl; here = refl; place = refl; by = refl; since = []; earlier = refl; stand = _; walks = stays; answer = first_block; tells = (refl, refl); begins = refl; above = lit≤ tt },
  lit≤ tt,
  (makers_start, refl),
  (
    record { legal = start_legal; actor = _; stands = refl; here = refl; place = refl; by = refl; since = []; earlier = refl; stand = _; walks = stays; answer = other_block; tells = (refl, refl); begins = refl; above = lit≤ tt },
    lit≤ tt,
    ([], refl),
    tt,
  ),
)

abbrev named_by : Actor → ℕ → Type 0
named_by a n = IsPrefix a.named (filter_map (cell_of n) (journal_at (journals_of (makers_events ∷ [])) a.birth.to.0))

makers_named : AllNamed makers_legal.actors (journals_of (makers_events ∷ []))
makers_named zero a got = subst (λ (v : Actor). named_by v 0) (one_item (slice_get makers_legal.actors 0) _ a refl got) ([], refl)
makers_named (suc zero) a got = subst (λ (v : Actor). named_by v 1) (one_item (slice_get makers_legal.actors 1) _ a refl got) ([], refl)
makers_named (suc (suc n)) a got = absurd (let f : ⊥ = cc in f)

pub makers_parts : AreParts makers_script makers_setup ((makers_start ++ makers_print) ++ makers_end) (makers_events ∷ [])
makers_parts = record { legal = makers_legal; one_each = refl; places = (makers_place, (makers_print ++ makers_end, refl), tt); named = makers_named }
