-- A place may tell both ways of an `if`, but no ledger has parts with it.
use Rattle.std.proofs.Common.{◌≡◌, ℕ, pos, List, [], ◌∷◌, Option, Some, slice_get, get_or, refl, ap, lit<, lit≤, subst}
use Rattle.std.specs.List.{filter_map}
use mathlib.Core.List.{IsPrefix}
use Rattle.rx_rules.proofs.Common.{Number, Ref, Answer, Gives, Birth, Cells, cell_of, journal_at, t, p}
use Rattle.rx_base.proofs.Prefixes.{prefix-trans}
use Rattle.rx_rules.specs.declared.events.Cell.{Cell}
use Rattle.rx_parts.specs.Ledger.{LedgerItem, Actor, stays, local, stores, main_actor, asks, LegalLedger}
use Rattle.rx_parts.specs.Places.{LegalPlace, journal_of}
use Rattle.rx_parts.specs.Parts.{AreParts, journals_of}
use Rattle.rx_parts.proofs.Tasks.{later}
use Rattle.rx_parts.proofs.Whole.{legal_later}
use Rattle.rx_parts_bounds.specs.Examples.{makers_setup}
use Rattle.rx_parts_bounds.specs.TwoWays.{ways_script, reads, reads_zero, ways_events}

-- the reference to a block
abbrev block : ℕ → ℕ → ℕ → Answer
block name start generation = Gives name (Ref (record { home = p 0; start = start; generation = generation }))

abbrev read : ℕ → Answer
read n = Gives 1 (Number (pos n))

abbrev none_legal : LegalLedger ways_script makers_setup []
none_legal = record { folds = record { some = lit≤ tt; few = lit≤ tt; allowed = tt; plan = tt }; last = tt; actors = _; made = refl }

abbrev zero_legal : LegalLedger ways_script makers_setup reads_zero
zero_legal =
    record {
      folds = record { some = lit≤ tt; few = lit≤ tt; allowed = (record { task = _; stands = refl; unstruck = refl; asks = ((refl, refl), refl, refl, lit< tt) }, tt); plan = (tt, tt) };
      last = tt;
      actors = _;
      made = (_, asks (t 0) _ _ _ refl refl refl refl (stores (block 0 0 1) (lit≤ tt) (refl, refl) refl (stores (read 0) (lit≤ tt) (refl, refl, refl) refl (local refl stays))) (lit≤ tt) (refl, refl, refl), refl);
    }

-- task 0 as the ledger tells it
abbrev starter : Actor
starter = get_or zero_legal.actors 0 (main_actor ways_script 1)

pub ways_legal : LegalPlace ways_script makers_setup 0 ways_events
ways_legal = (record { legal = none_legal; actor = _; stands = refl; here = refl; place = refl; by = refl; since = _; earlier = refl; stand = _; walks = stays; answer = block 0 0 1; tells = (refl, refl); begins = refl; above = lit≤ tt }, lit≤ tt, ([], refl), (record { legal = none_legal; actor = _; stands = refl; here = refl; place = refl; by = refl; since = _; earlier = refl; stand = _; walks = stores (block 0 0 1) (lit≤ tt) (refl, refl) refl stays; answer = read 1; tells = (refl, refl, refl); begins = refl; above = lit≤ tt }, lit≤ tt, ([], refl), (record { legal = none_legal; actor = _; stands = refl; here = refl; place = refl; by = refl; since = _; earlier = refl; stand = _; walks = stores (block 0 0 1) (lit≤ tt) (refl, refl) refl (stores (read 1) (lit≤ tt) (refl, refl, refl) refl (local refl stays)); answer = block 2 1 2; tells = (refl, refl); begins = refl; above = lit≤ tt }, lit≤ tt, ([], refl), (record { legal = none_legal; actor = _; stands = refl; here = refl; place = refl; by = refl; since = _; earlier = refl; stand = _; walks = stores (block 0 0 1) (lit≤ tt) (refl, refl) refl (stores (read 1) (lit≤ tt) (refl, refl, refl) refl (local refl (stores (block 2 1 2) (lit≤ tt) (refl, refl) refl stays))); answer = block 3 2 3; tells = (refl, refl); begins = refl; above = lit≤ tt }, lit≤ tt, ([], refl), (record { legal = none_legal; actor = _; stands = refl; here = refl; place = refl; by = refl; since = _; earlier = refl; stand = _; walks = stores (block 0 0 1) (lit≤ tt) (refl, refl) refl (stores (read 1) (lit≤ tt) (refl, refl, refl) refl (local refl (stores (block 2 1 2) (lit≤ tt) (refl, refl) refl (stores (block 3 2 3) (lit≤ tt) (refl, refl) refl stays)))); answer = block 4 3 4; tells = (refl, refl); begins = refl; above = lit≤ tt }, lit≤ tt, ([], refl), (record { legal = zero_legal; actor = _; stands = refl; here = refl; place = refl; by = refl; since = _; earlier = refl; stand = _; walks = stays; answer = block 2 4 5; tells = (refl, refl); begins = refl; above = lit≤ tt }, lit≤ tt, (reads_zero, refl), (record { legal = zero_legal; actor = _; stands = refl; here = refl; place = refl; by = refl; since = _; earlier = refl; stand = _; walks = stores (block 2 4 5) (lit≤ tt) (refl, refl) refl stays; answer = block 3 5 6; tells = (refl, refl); begins = refl; above = lit≤ tt }, lit≤ tt, ([], refl), (record { legal = zero_legal; actor = _; stands = refl; here = refl; place = refl; by = refl; since = _; earlier = refl; stand = _; walks = stores (block 2 4 5) (lit≤ tt) (refl, refl) refl (stores (block 3 5 6) (lit≤ tt) (refl, refl) refl stays); answer = block 4 6 7; tells = (refl, refl); begins = refl; above = lit≤ tt }, lit≤ tt, ([], refl), tt))))))))

-- what the ledger's entry names is not what the place has
reads_apart : ◌≡◌ {A = Option (ℕ × Cell × List ℕ)} (Some (0, reads (pos 0), 1 ∷ [])) (Some (0, reads (pos 1), 1 ∷ [])) → ⊥
reads_apart e =
    let both : ◌≡◌ {A = ℕ × Cell × List ℕ} (0, reads (pos 0), 1 ∷ []) (0, reads (pos 1), 1 ∷ []) = cc in
    let cells : reads (pos 0) ≡ reads (pos 1) = ap (λ (v : ℕ × Cell × List ℕ). v.1) both in
    let f : ⊥ = cc in f

other_read : IsPrefix starter.named (filter_map (cell_of 0) (journal_of ways_events)) → ⊥
other_read (more, e) = reads_apart (ap (λ (v : Cells). slice_get v 1) e)

-- the task reads 0 in each ledger that begins so, and 1 at the place
pub ways_refused : (h : List LedgerItem) → AreParts ways_script makers_setup h (ways_events ∷ []) → ⊥
ways_refused h parts =
    let on = legal_later ways_script makers_setup reads_zero h zero_legal parts.legal parts.places.1 in
    let z = later 1 zero_legal.actors parts.places.1.0 parts.legal.actors on 0 starter refl in
    let named : IsPrefix z.0.named (filter_map (cell_of 0) (journal_of ways_events)) = subst (λ (v : Birth). IsPrefix z.0.named (filter_map (cell_of 0) (journal_at (journals_of (ways_events ∷ [])) v.to.0))) z.2.birth (parts.named 0 z.0 z.1) in
    let both : IsPrefix starter.named (filter_map (cell_of 0) (journal_of ways_events)) = prefix-trans starter.named z.0.named (filter_map (cell_of 0) (journal_of ways_events)) z.2.named named in
    other_read both
