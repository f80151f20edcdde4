-- Worked runs in which each task starts the next are parts: an adoption, a place that joins, and a task that is lost at such a place.
use Rattle.std.proofs.Common.{ℕ, zero, suc, [], ◌∷◌, ◌++◌, slice_get, refl, lit<, lit≤, subst}
use Rattle.std.specs.List.{filter_map}
use mathlib.Core.List.{IsPrefix}
use Rattle.rx_rules.proofs.Common.{Ref, Gives, cell_of, journal_at, t, p, adoption_script, adoption_setup, joining_script, joining_setup}
use Rattle.rx_rules.proofs.Worked.{adoption_runs, joining_place_runs}
use Rattle.rx_parts.specs.Ledger.{Actor, stays, local, hosts, arrives, asks, ends, LegalLedger}
use Rattle.rx_parts.specs.Places.{LegalPlace}
use Rattle.rx_parts.specs.Parts.{AreParts, AllNamed, journals_of}
use Rattle.rx_parts_bounds.specs.Examples.{adoption_history, joining_history, joined_script, joined_setup, joined_arrives, joined_lost, joined_events}
use Rattle.rx_parts.proofs.Prefixes.{prefix-legal}
use Rattle.rx_parts.proofs.Lists.{one_item}
use Rattle.rx_parts_bounds.proofs.MakerRows.{one_not_zero}

abbrev adoption_legal : LegalLedger adoption_script adoption_setup adoption_history
adoption_legal =
    record {
      folds = adoption_runs.folds;
      last = refl;
      actors = _;
      made = (
        _,
        asks (t 0) _ _ _ refl refl refl refl (local refl stays) (lit≤ tt) refl,
        (
          _,
          asks (t 0) _ _ _ refl refl refl refl stays (lit≤ tt) (refl, refl, refl),
          (
            _,
            asks (t 0) _ _ _ refl refl refl refl stays (lit≤ tt) refl,
            (
              _,
              arrives (t 1) _ _ refl refl refl refl refl,
              (
                _,
                asks (t 1) _ _ _ refl refl refl refl stays (lit≤ tt) refl,
                (
                  _,
                  asks (t 1) _ _ _ refl refl refl refl stays (lit≤ tt) (refl, refl, refl),
                  (
                    _,
                    asks (t 1) _ _ _ refl refl refl refl stays (lit≤ tt) refl,
                    (
                      _,
                      arrives (t 2) _ _ refl refl refl refl refl,
                      (
                        _,
                        asks (t 2) _ _ _ refl refl refl refl stays (lit≤ tt) refl,
                        (
                          _,
                          asks (t 2) _ _ _ refl refl refl refl stays (lit≤ tt) (refl, refl, refl),
                          (
                            _,
                            asks (t 2) _ _ _ refl refl refl refl stays (lit≤ tt) refl,
                            (
                              _,
                              arrives (t 3) _ _ refl refl refl refl refl,
                              (
                                _,
                                hosts tt,
                                (
                                  _,
                                  asks (t 3) _ _ _ refl refl refl refl stays (lit≤ tt) (refl, refl),
                                  (
                                    _,
                                    ends (t 3) _ _ _ refl refl refl refl stays (lit≤ tt) refl,
                                    (
                                      _,
                                      asks (t 1) _ _ _ refl refl refl refl stays (lit≤ tt) tt,
                                      (
                                        _,
                                        ends (t 1) _ _ _ refl refl refl refl stays (lit≤ tt) refl,
                                        (
                                          _,
                                          asks (t 0) _ _ _ refl refl refl refl stays (lit≤ tt) tt,
                                          (
                                            _,
                                            asks (t 0) _ _ _ refl refl refl refl (local refl stays) (lit≤ tt) (refl, refl),
                                            (
                                              _,
                                              ends (t 0) _ _ _ refl refl refl refl stays (lit≤ tt) refl,
                                              (_, hosts tt, refl),
                                            ),
                                          ),
                                        ),
                                      ),
                                    ),
                                  ),
                                ),
                              ),
                            ),
                          ),
                        ),
                      ),
                    ),
                  ),
                ),
              ),
            ),
          ),
        ),
      );
    }

abbrev adoption_names : Actor → ℕ → Type 0
adoption_names a n = IsPrefix a.named (filter_map (cell_of n) (journal_at (journals_of ([] ∷ [] ∷ [] ∷ [] ∷ [])) a.birth.to.0))

adoption_named : AllNamed adoption_legal.actors (journals_of ([] ∷ [] ∷ [] ∷ [] ∷ []))
adoption_named zero a got = subst (λ (v : Actor). adoption_names v 0) (one_item (slice_get adoption_legal.actors 0) _ a refl got) ([], refl)
adoption_named (suc zero) a got = subst (λ (v : Actor). adoption_names v 1) (one_item (slice_get adoption_legal.actors 1) _ a refl got) ([], refl)
adoption_named (suc (suc zero)) a got = subst (λ (v : Actor). adoption_names v 2) (one_item (slice_get adoption_legal.actors 2) _ a refl got) ([], refl)
adoption_named (suc (suc (suc zero))) a got = subst (λ (v : Actor). adoption_names v 3) (one_item (slice_get adoption_legal.actors 3) _ a refl got) ([], refl)
adoption_named (suc (suc (suc (suc n)))) a got = absurd (let f : ⊥ = cc in f)

pub adoption_parts : AreParts adoption_script adoption_setup adoption_history ([] ∷ [] ∷ [] ∷ [] ∷ [])
adoption_parts = record { legal = adoption_legal; one_each = refl; places = (tt, (adoption_history, refl), (tt, (adoption_history, refl), (tt, (adoption_history, refl), (tt, (adoption_history, refl), tt)))); named = adoption_named }

-- A place that joins.

abbrev joining_legal : LegalLedger joining_script joining_setup joining_history
joining_legal =
    record {
      folds = joining_place_runs.folds;
      last = refl;
      actors = _;
      made = (
        _,
        asks (t 0) _ _ _ refl refl refl refl stays (lit≤ tt) (refl, refl),
        (
          _,
          hosts tt,
          (
            _,
            asks (t 0) _ _ _ refl refl refl refl stays (lit≤ tt) refl,
            (
              _,
              asks (t 0) _ _ _ refl refl refl refl stays (lit≤ tt) (refl, refl, refl),
              (
                _,
                ends (t 0) _ _ _ refl refl refl refl stays (lit≤ tt) refl,
                (
                  _,
                  arrives (t 1) _ _ refl refl refl refl refl,
                  (
                    _,
                    asks (t 1) _ _ _ refl refl refl refl stays (lit≤ tt) (refl, refl),
                    (
                      _,
                      ends (t 1) _ _ _ refl refl refl refl stays (lit≤ tt) refl,
                      (_, hosts tt, refl),
                    ),
                  ),
                ),
              ),
            ),
          ),
        ),
      );
    }

abbrev joining_names : Actor → ℕ → Type 0
joining_names a n = IsPrefix a.named (filter_map (cell_of n) (journal_at (journals_of ([] ∷ [] ∷ [])) a.birth.to.0))

joining_named : AllNamed joining_legal.actors (journals_of ([] ∷ [] ∷ []))
joining_named zero a got = subst (λ (v : Actor). joining_names v 0) (one_item (slice_get joining_legal.actors 0) _ a refl got) ([], refl)
joining_named (suc zero) a got = subst (λ (v : Actor). joining_names v 1) (one_item (slice_get joining_legal.actors 1) _ a refl got) ([], refl)
joining_named (suc (suc n)) a got = absurd (let f : ⊥ = cc in f)

pub joining_parts : AreParts joining_script joining_setup joining_history ([] ∷ [] ∷ [])
joining_parts = record { legal = joining_legal; one_each = refl; places = (tt, (joining_history, refl), (tt, (joining_history, refl), tt)); named = joining_named }

-- A task that is lost at such a place, after it has made a block.

abbrev joined_legal : LegalLedger joined_script joined_setup (joined_arrives ++ joined_lost)
joined_legal =
    record {
      folds = record {
        some = lit≤ tt;
        few = lit≤ tt;
        allowed = (
          (refl, lit≤ tt),
          (
            record { task = _; stands = refl; unstruck = refl; asks = ((p 0, (refl, refl)), refl) },
            (
              record { task = _; stands = refl; unstruck = refl; asks = ((p 0, (refl, refl)), refl, refl) },
              (
                record { task = _; stands = refl; unstruck = refl; asks = ((refl, refl), refl, refl, lit< tt) },
                (
                  record { task = _; stands = refl; unstruck = refl; asks = ((p 0, (refl, refl)), _, (refl, refl), refl) },
                  (
                    record { task = _; stands = refl; unstruck = refl; asks = (p 0, refl) },
                    (
                      (lit< tt, one_not_zero, refl),
                      (
                        record { task = _; stands = refl; unstruck = refl; asks = (refl, _, (refl, refl), record { is_quiet = refl; places = refl; count = refl; faults = refl }) },
                        (
                          record { task = _; stands = refl; unstruck = refl; asks = ((p 0, (refl, refl)), refl) },
                          ((_, refl, record { is_quiet = refl; places = refl; count = refl; faults = refl }), tt),
                        ),
                      ),
                    ),
                  ),
                ),
              ),
            ),
          ),
        );
        plan = ((refl, lit≤ tt), (lit< tt, (lit< tt, (lit< tt, (lit< tt, (lit< tt, ((refl, lit≤ tt), (tt, (tt, (tt, tt))))))))));
      };
      last = refl;
      actors = _;
      made = (
        _,
        hosts tt,
        (
          _,
          asks (t 0) _ _ _ refl refl refl refl stays (lit≤ tt) refl,
          (
            _,
            asks (t 0) _ _ _ refl refl refl refl stays (lit≤ tt) refl,
            (
              _,
              asks (t 0) _ _ _ refl refl refl refl stays (lit≤ tt) (refl, refl, refl),
              (
                _,
                asks (t 0) _ _ _ refl refl refl refl stays (lit≤ tt) refl,
                (
                  _,
                  arrives (t 1) _ _ refl refl refl refl refl,
                  (
                    _,
                    hosts tt,
                    (
                      _,
                      asks (t 0) _ _ _ refl refl refl refl stays (lit≤ tt) tt,
                      (
                        _,
                        ends (t 0) _ _ _ refl refl refl refl stays (lit≤ tt) refl,
                        (_, hosts tt, refl),
                      ),
                    ),
                  ),
                ),
              ),
            ),
          ),
        ),
      );
    }

abbrev joined_arrived_legal : LegalLedger joined_script joined_setup joined_arrives
joined_arrived_legal =
    record {
      folds = (prefix-legal joined_script joined_setup joined_arrives joined_lost joined_legal).folds;
      last = tt;
      actors = _;
      made = (
        _,
        hosts tt,
        (
          _,
          asks (t 0) _ _ _ refl refl refl refl stays (lit≤ tt) refl,
          (
            _,
            asks (t 0) _ _ _ refl refl refl refl stays (lit≤ tt) refl,
            (
              _,
              asks (t 0) _ _ _ refl refl refl refl stays (lit≤ tt) (refl, refl, refl),
              (
                _,
                asks (t 0) _ _ _ refl refl refl refl stays (lit≤ tt) refl,
                (_, arrives (t 1) _ _ refl refl refl refl refl, refl),
              ),
            ),
          ),
        ),
      );
    }

joined_place : LegalPlace joined_script joined_setup 1 joined_events
joined_place = (
  record { legal = joined_arrived_legal; actor = _; stands = refl; here = refl; place = refl; by = refl; since = []; earlier = refl; stand = _; walks = stays; answer = Gives 1 (Ref (record { home = p 1; start = 0; generation = 1 })); tells = (refl, refl); begins = refl; above = lit≤ tt },
  lit≤ tt,
  (joined_arrives, refl),
  tt,
)

abbrev joined_names : Actor → ℕ → Type 0
joined_names a n = IsPrefix a.named (filter_map (cell_of n) (journal_at (journals_of ([] ∷ joined_events ∷ [])) a.birth.to.0))

joined_named : AllNamed joined_legal.actors (journals_of ([] ∷ joined_events ∷ []))
joined_named zero a got = subst (λ (v : Actor). joined_names v 0) (one_item (slice_get joined_legal.actors 0) _ a refl got) ([], refl)
joined_named (suc zero) a got = subst (λ (v : Actor). joined_names v 1) (one_item (slice_get joined_legal.actors 1) _ a refl got) (_, refl)
joined_named (suc (suc n)) a got = absurd (let f : ⊥ = cc in f)

pub joined_parts : AreParts joined_script joined_setup (joined_arrives ++ joined_lost) ([] ∷ joined_events ∷ [])
joined_parts = record { legal = joined_legal; one_each = refl; places = (tt, (joined_arrives ++ joined_lost, refl), (joined_place, (joined_lost, refl), tt)); named = joined_named }
