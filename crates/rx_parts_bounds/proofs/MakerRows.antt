-- The history of a task that is lost after it has made two blocks is parts.
use Rattle.std.proofs.Common.{◌≢◌, ℕ, zero, suc, [], ◌∷◌, ◌++◌, slice_get, refl, lit<, lit≤, subst}
use Rattle.std.specs.List.{filter_map}
use mathlib.Core.List.{IsPrefix}
use Rattle.rx_rules.proofs.Common.{Ref, Answer, Gives, cell_of, journal_at, t, p}
use Rattle.rx_parts.specs.Ledger.{Actor, stays, stores, hosts, arrives, asks, ends, LegalLedger}
use Rattle.rx_parts.specs.Places.{LegalPlace}
use Rattle.rx_parts.specs.Parts.{AreParts, AllNamed, journals_of}
use Rattle.rx_parts_bounds.specs.Examples.{maker_script, maker_setup, maker_arrives, maker_prints, maker_at_work, own_block, maker_lost, maker_events}
use Rattle.rx_parts.proofs.Prefixes.{prefix-legal}
use Rattle.rx_parts.proofs.Lists.{one_item}

pub one_not_zero : ◌≢◌ {A = ℕ} 1 0
one_not_zero e = cc

-- the references to its blocks
abbrev pub first_block : Answer
first_block = Gives 0 (Ref (record { home = p 1; start = 0; generation = 1 }))

abbrev pub second_block : Answer
second_block = Gives 1 (Ref (record { home = p 1; start = 4; generation = 2 }))

abbrev pub maker_legal : LegalLedger maker_script maker_setup (maker_at_work ++ maker_lost)
maker_legal =
    record {
      folds = record {
        some = lit≤ tt;
        few = lit≤ tt;
        allowed = (
          record { task = _; stands = refl; unstruck = refl; asks = ((p 0, (refl, refl)), refl, refl) },
          (
            record { task = _; stands = refl; unstruck = refl; asks = ((refl, refl), refl, refl, lit< tt) },
            (
              record { task = _; stands = refl; unstruck = refl; asks = ((p 0, (refl, refl)), _, (refl, refl), refl) },
              (
                record { task = _; stands = refl; unstruck = refl; asks = (p 0, refl) },
                (
                  record { task = _; stands = refl; unstruck = refl; asks = (p 1, (refl, refl)) },
                  (
                    (lit< tt, one_not_zero, refl),
                    (
                      record { task = _; stands = refl; unstruck = refl; asks = (refl, _, (refl, refl), record { is_quiet = refl; places = refl; count = refl; faults = refl }) },
                      (
                        record { task = _; stands = refl; unstruck = refl; asks = ((p 0, (refl, refl)), refl) },
                        ((_, refl, record { is_quiet = refl; places = refl; count = refl; faults = refl }), tt),
                      ),
                    ),
                  ),
                ),
              ),
            ),
          ),
        );
        plan = (lit< tt, (lit< tt, (lit< tt, (lit< tt, (lit< tt, ((refl, lit≤ tt), (tt, (tt, (tt, tt)))))))));
      };
      last = refl;
      actors = _;
      made = (
        _,
        asks (t 0) _ _ _ refl refl refl refl stays (lit≤ tt) refl,
        (
          _,
          asks (t 0) _ _ _ refl refl refl refl stays (lit≤ tt) (refl, refl, refl),
          (
            _,
            asks (t 0) _ _ _ refl refl refl refl stays (lit≤ tt) refl,
            (
              _,
              arrives (t 1) (p 1) _ refl refl refl refl refl,
              (
                _,
                asks (t 1) _ _ _ refl refl refl refl (stores first_block (lit≤ tt) (refl, refl) refl stays) (lit≤ tt) (refl, refl),
                (
                  _,
                  hosts tt,
                  (
                    _,
                    asks (t 0) _ _ _ refl refl refl refl stays (lit≤ tt) tt,
                    (
                      _,
                      ends (t 0) _ _ _ refl refl refl refl stays (lit≤ tt) refl,
                      (_, hosts tt, refl),
                    ),
                  ),
                ),
              ),
            ),
          ),
        ),
      );
    }

abbrev pub arrived_legal : LegalLedger maker_script maker_setup maker_arrives
arrived_legal =
    record {
      folds = (prefix-legal maker_script maker_setup maker_arrives (maker_prints (0 ∷ []) own_block ∷ maker_lost) maker_legal).folds;
      last = tt;
      actors = _;
      made = (
        _,
        asks (t 0) _ _ _ refl refl refl refl stays (lit≤ tt) refl,
        (
          _,
          asks (t 0) _ _ _ refl refl refl refl stays (lit≤ tt) (refl, refl, refl),
          (
            _,
            asks (t 0) _ _ _ refl refl refl refl stays (lit≤ tt) refl,
            (_, arrives (t 1) (p 1) _ refl refl refl refl refl, refl),
          ),
        ),
      );
    }

abbrev pub at_work_legal : LegalLedger maker_script maker_setup maker_at_work
at_work_legal =
    record {
      folds = (prefix-legal maker_script maker_setup maker_at_work maker_lost maker_legal).folds;
      last = tt;
      actors = _;
      made = (
        _,
        asks (t 0) _ _ _ refl refl refl refl stays (lit≤ tt) refl,
        (
          _,
          asks (t 0) _ _ _ refl refl refl refl stays (lit≤ tt) (refl, refl, refl),
          (
            _,
            asks (t 0) _ _ _ refl refl refl refl stays (lit≤ tt) refl,
            (
              _,
              arrives (t 1) (p 1) _ refl refl refl refl refl,
              (_, asks (t 1) _ _ _ refl refl refl refl (stores first_block (lit≤ tt) (refl, refl) refl stays) (lit≤ tt) (refl, refl), refl),
            ),
          ),
        ),
      );
    }

maker_place : LegalPlace maker_script maker_setup 1 maker_events
maker_place = (
  record { legal = arrived_legal; actor = _; stands = refl; here = refl; place = refl; by = refl; since = []; earlier = refl; stand = _; walks = stays; answer = first_block; tells = (refl, refl); begins = refl; above = lit≤ tt },
  lit≤ tt,
  (maker_arrives, refl),
  (
    record { legal = at_work_legal; actor = _; stands = refl; here = refl; place = refl; by = refl; since = []; earlier = refl; stand = _; walks = stays; answer = second_block; tells = (refl, refl); begins = refl; above = lit≤ tt },
    lit≤ tt,
    (_, refl),
    tt,
  ),
)

abbrev named_by : Actor → ℕ → Type 0
named_by a n = IsPrefix a.named (filter_map (cell_of n) (journal_at (journals_of ([] ∷ maker_events ∷ [])) a.birth.to.0))

maker_named : AllNamed maker_legal.actors (journals_of ([] ∷ maker_events ∷ []))
maker_named zero a got = subst (λ (v : Actor). named_by v 0) (one_item (slice_get maker_legal.actors 0) _ a refl got) ([], refl)
maker_named (suc zero) a got = subst (λ (v : Actor). named_by v 1) (one_item (slice_get maker_legal.actors 1) _ a refl got) (_, refl)
maker_named (suc (suc n)) a got = absurd (let f : ⊥ = cc in f)

pub maker_parts : AreParts maker_script maker_setup (maker_at_work ++ maker_lost) ([] ∷ maker_events ∷ [])
maker_parts = record { legal = maker_legal; one_each = refl; places = (tt, (maker_at_work ++ maker_lost, refl), (maker_place, (maker_lost, refl), tt)); named = maker_named }
