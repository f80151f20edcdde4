-- Beginnings of histories, and the stamps of a place that died.
use Rattle.std.proofs.Common.{◌≡◌, ℕ, suc, ◌<◌, Bool, true, false, ◌||◌, ◌==◌, nat_le, cond, List, [], ◌∷◌, map, take, Option, Some, None, refl, arith, ap, sym, ◌∙◌}
use Rattle.std.proofs.lemmas.Bool.{eqb-true, le-leb}
use Rattle.std.proofs.lemmas.List.{map-append, take-map, take-append-le}
use mathlib.Core.List.{IsPrefix}
use Rattle.rx_rules.proofs.Common.{has_bit, PlaceId, death_number}
use Rattle.rx_rules.specs.declared.entries.Entry.{Entry}
use Rattle.rx_rules.specs.declared.entries.Entry.TheVariants.{Death}
use Rattle.rx_book.specs.declared.views.Stamped.{Stamped}
use Rattle.rx_book.specs.History.{is_place, items_of, has_death}
use Rattle.rx_book.proofs.Masks.{has_bit-deaths_in}
use Rattle.rx_parts.specs.Ledger.{LedgerItem, entries_of}
use Rattle.rx_parts.proofs.Closing.{stamps-fit}
use Rattle.rx_parts.specs.declared.items.EntryItem.{EntryItem}
use Rattle.rx_parts.specs.declared.items.EventItem.{EventItem}
use Rattle.rx_parts.specs.Deaths.{place_shown}
use Rattle.rx_parts.specs.Histories.{ledger_item, ledger_items, made_event, made_events}
use Rattle.rx_parts.specs.Passes.{ClosesFit}

map_prefix : {X Y : Type 0} (f : X → Y) (xs ys : List X) → IsPrefix xs ys → IsPrefix (map f xs) (map f ys)
map_prefix f xs ys h = (map f h.0, sym (map-append f xs h.0) ∙ ap (map f) h.1)

-- what begins a history of the ledger's book, or of a place's book, begins its list
pub prefixes-stay : ((g h : List (Stamped EntryItem)) → IsPrefix g h → IsPrefix (ledger_items g) (ledger_items h)) × ((j k : List (Stamped EventItem)) → IsPrefix j k → IsPrefix (made_events j) (made_events k))
prefixes-stay = (map_prefix ledger_item, map_prefix made_event)

abbrev shows : EntryItem → Option ℕ
shows x = place_shown x.entry

or_right : (a b : Bool) → (a || b) ≡ false → b ≡ false
or_right true b h = cc
or_right false b h = h

-- a book shows the death of each place below 16
is_shown : (d p : ℕ) → p < 16 → (d == p) ≡ true → is_place p (cond (nat_le d 15) (Some d) None) ≡ true
is_shown d p low e =
    let it : d ≡ p = eqb-true d p e in
    ap (λ b. is_place p (cond b (Some d) None)) (le-leb d 15 (omega arith)) ∙ e

none_dies : (n : ℕ) (p : PlaceId) (log : List (Stamped EntryItem)) → p.0 < 16 → has_death shows p.0 (items_of log) ≡ false → death_number n p (entries_of (ledger_items log)) ≡ None
none_dies n p [] low h = refl
none_dies n p (x ∷ log) low h = by_entry (λ k. none_dies (suc n) p log low k) x.item.entry h where
  by_entry : (has_death shows p.0 (items_of log) ≡ false → death_number (suc n) p (entries_of (ledger_items log)) ≡ None) → (e : Entry) → (is_place p.0 (place_shown e) || has_death shows p.0 (items_of log)) ≡ false → death_number n p (e ∷ entries_of (ledger_items log)) ≡ None
  by_entry rest (Death d) k = by_test (d.0 == p.0) refl where
    by_test : (b : Bool) → (d.0 == p.0) ≡ b → cond b (Some n) (death_number (suc n) p (entries_of (ledger_items log))) ≡ None
    by_test true e = absurd (let f : true ≡ false = ap (λ b. b || has_death shows p.0 (items_of log)) (sym (is_shown d.0 p.0 low e)) ∙ k in cc)
    by_test false e = rest (or_right (is_place p.0 (place_shown (Death d))) (has_death shows p.0 (items_of log)) k)
  by_entry rest _ k = rest k

pub closes-fit : ClosesFit
closes-fit v n w h p k d low met known prefix unknown stamped died =
    let none : has_death shows p.0 (items_of (take n.reach w.seen)) ≡ false =
    sym (has_bit-deaths_in shows (items_of (take n.reach w.seen)) p.0) ∙ ap (λ m. has_bit m p.0) (sym (met.their_deaths known)) ∙ unknown in
    let front : take n.reach h ≡ take n.reach w.seen = ap (take n.reach) (sym prefix.1) ∙ take-append-le n.reach w.seen prefix.0 known in
    let front_entries : take n.reach (entries_of (ledger_items h)) ≡ entries_of (ledger_items (take n.reach w.seen)) =
    take-map (λ (i : LedgerItem). i.entry) n.reach (ledger_items h) ∙ ap entries_of (take-map ledger_item n.reach h) ∙ ap (λ l. entries_of (ledger_items l)) front in
    let early : death_number 0 p (take n.reach (entries_of (ledger_items h))) ≡ None = ap (death_number 0 p) front_entries ∙ none_dies 0 p (take n.reach w.seen) low none in
    stamps-fit (entries_of (ledger_items h)) p n.reach d k early died stamped
