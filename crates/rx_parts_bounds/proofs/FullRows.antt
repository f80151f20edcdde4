-- The worked full heap is parts: five events of one task.
use Rattle.std.proofs.Common.{ℕ, zero, suc, [], ◌∷◌, slice_get, take, drop, refl, lit≤, subst}
use Rattle.std.specs.List.{filter_map}
use mathlib.Core.List.{IsPrefix}
use Rattle.rx_rules.proofs.Common.{Ref, HeapFull, Answer, Gives, Fine, Fails, cell_of, journal_at, t, p, full_script, full_setup}
use Rattle.rx_rules.proofs.Worked.{full_heap_runs}
use Rattle.rx_parts.specs.Ledger.{Actor, stays, local, stores, hosts, asks, ends, LegalLedger}
use Rattle.rx_parts.specs.Places.{LegalPlace}
use Rattle.rx_parts.specs.Parts.{AreParts, AllNamed, journals_of}
use Rattle.rx_parts_bounds.specs.Examples.{full_history, full_events}
use Rattle.rx_parts.proofs.Prefixes.{prefix-legal}
use Rattle.rx_parts.proofs.Lists.{one_item}

-- the references to its blocks
abbrev block : ℕ → ℕ → ℕ → Answer
block name start generation = Gives name (Ref (record { home = p 0; start = start; generation = generation }))

abbrev full_legal : LegalLedger full_script full_setup full_history
full_legal =
    record {
      folds = full_heap_runs.folds;
      last = refl;
      actors = _;
      made = (
        _,
        asks (t 0) _ _ _ refl refl refl refl (stores (block 0 0 1) (lit≤ tt) (refl, refl) refl (stores (block 1 4 2) (lit≤ tt) (refl, refl) refl (stores Fine (lit≤ tt) (refl, refl) refl (local refl (stores (Fails HeapFull) (lit≤ tt) (refl, refl) refl (local refl stays)))))) (lit≤ tt) (refl, refl),
        (
          _,
          ends (t 0) _ _ _ refl refl refl refl (stores (block 3 0 3) (lit≤ tt) (refl, refl) refl stays) (lit≤ tt) refl,
          (_, hosts tt, refl),
        ),
      );
    }

abbrev none_legal : LegalLedger full_script full_setup []
none_legal = record { folds = (prefix-legal full_script full_setup [] full_history full_legal).folds; last = tt; actors = _; made = refl }

abbrev one_legal : LegalLedger full_script full_setup (take 1 full_history)
one_legal =
    record {
      folds = (prefix-legal full_script full_setup (take 1 full_history) (drop 1 full_history) full_legal).folds;
      last = tt;
      actors = _;
      made = (_, asks (t 0) _ _ _ refl refl refl refl (stores (block 0 0 1) (lit≤ tt) (refl, refl) refl (stores (block 1 4 2) (lit≤ tt) (refl, refl) refl (stores Fine (lit≤ tt) (refl, refl) refl (local refl (stores (Fails HeapFull) (lit≤ tt) (refl, refl) refl (local refl stays)))))) (lit≤ tt) (refl, refl), refl);
    }

full_place : LegalPlace full_script full_setup 0 full_events
full_place = (
  record { legal = none_legal; actor = _; stands = refl; here = refl; place = refl; by = refl; since = _; earlier = refl; stand = _; walks = stays; answer = block 0 0 1; tells = (refl, refl); begins = refl; above = lit≤ tt },
  lit≤ tt,
  ([], refl),
  (
    record { legal = none_legal; actor = _; stands = refl; here = refl; place = refl; by = refl; since = _; earlier = refl; stand = _; walks = stores (block 0 0 1) (lit≤ tt) (refl, refl) refl stays; answer = block 1 4 2; tells = (refl, refl); begins = refl; above = lit≤ tt },
    lit≤ tt,
    ([], refl),
    (
      record { legal = none_legal; actor = _; stands = refl; here = refl; place = refl; by = refl; since = _; earlier = refl; stand = _; walks = stores (block 0 0 1) (lit≤ tt) (refl, refl) refl (stores (block 1 4 2) (lit≤ tt) (refl, refl) refl stays); answer = Fine; tells = (refl, refl); begins = refl; above = lit≤ tt },
      lit≤ tt,
      ([], refl),
      (
        record { legal = none_legal; actor = _; stands = refl; here = refl; place = refl; by = refl; since = _; earlier = refl; stand = _; walks = stores (block 0 0 1) (lit≤ tt) (refl, refl) refl (stores (block 1 4 2) (lit≤ tt) (refl, refl) refl (stores Fine (lit≤ tt) (refl, refl) refl (local refl stays))); answer = Fails HeapFull; tells = (refl, refl); begins = refl; above = lit≤ tt },
        lit≤ tt,
        ([], refl),
        (record { legal = one_legal; actor = _; stands = refl; here = refl; place = refl; by = refl; since = []; earlier = refl; stand = _; walks = stays; answer = block 3 0 3; tells = (refl, refl); begins = refl; above = lit≤ tt }, lit≤ tt, (take 1 full_history, refl), tt),
      ),
    ),
  ),
)

abbrev full_names : Actor → ℕ → Type 0
full_names a n = IsPrefix a.named (filter_map (cell_of n) (journal_at (journals_of (full_events ∷ [] ∷ [])) a.birth.to.0))

full_named : AllNamed full_legal.actors (journals_of (full_events ∷ [] ∷ []))
full_named zero a got = subst (λ (v : Actor). full_names v 0) (one_item (slice_get full_legal.actors 0) _ a refl got) ([], refl)
full_named (suc n) a got = absurd (let f : ⊥ = cc in f)

pub full_parts : AreParts full_script full_setup full_history (full_events ∷ [] ∷ [])
full_parts = record { legal = full_legal; one_each = refl; places = (full_place, (drop 1 full_history, refl), (tt, (full_history, refl), tt)); named = full_named }
