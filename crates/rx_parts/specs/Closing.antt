-- The journals of the whole run: the events of each place, and the close of a place that died.
use Rattle.std.specs.Prelude.{take, ◌≡◌, ◌≤◌, ℕ, suc, List, [], ◌∷◌, ◌++◌, Option, Some, None}
use Rattle.rx_base.specs.declared.ids.PlaceId.{PlaceId}
use Rattle.rx_rules.specs.declared.entries.Entry.{Entry}
use Rattle.rx_rules.specs.declared.events.PlaceEvent.{PlaceEvent}
use Rattle.rx_rules.specs.declared.events.PlaceEvent.TheVariants.{Close}
use Rattle.rx_rules.specs.Code.{Block}
use Rattle.rx_rules.specs.Store.{IsStoreRun, opening_state}
use Rattle.rx_rules.specs.Run.{Given, EndsWithRoot, IsRun, death_number}
use Rattle.rx_parts.specs.Ledger.{LedgerItem, entries_of}
use Rattle.rx_parts.specs.Places.{MadeEvent, journal_of}
use Rattle.rx_parts.specs.Parts.{AreParts}

-- no stamp of the events is above n
abbrev pub StampedTo : ℕ → List MadeEvent → Type 0
StampedTo n [] = Unit {0}
StampedTo n (m ∷ k) = (m.stamp ≤ n) × StampedTo n k

-- a place that lives has no close; that of a place that died is last, is stamped with the death, and no event is stamped above
abbrev pub ClosedBy : Option ℕ → List MadeEvent → List PlaceEvent → Type 0
ClosedBy None k j = j ≡ journal_of k
ClosedBy (Some n) k j = (j ≡ journal_of k ++ Close n ∷ []) × StampedTo n k

-- the journals of places p, p + 1, .. are so, and meet the store law
abbrev pub EachClosed : Given → List Entry → ℕ → List (List MadeEvent) → List (List PlaceEvent) → Type 0
EachClosed U es p [] [] = Unit {0}
EachClosed U es p (k ∷ ks) (j ∷ js) =
    ClosedBy (death_number 0 (record { 0 = p }) es) k j × IsStoreRun U.heap opening_state j × EachClosed U es (suc p) ks js
EachClosed U es p [] (j ∷ js) = ⊥
EachClosed U es p (k ∷ ks) [] = ⊥

-- the parts of a history that ends with the root's release, with lawful journals that are closed so, are a whole run
abbrev pub PartsRun : Type 0
PartsRun = (code : Block) (U : Given) (h : List LedgerItem) (ks : List (List MadeEvent)) (js : List (List PlaceEvent))
    → AreParts code U h ks → EndsWithRoot (entries_of h) → EachClosed U (entries_of h) 0 ks js → IsRun code U (entries_of h) js

-- Where no stamp of a place is above the number of entries that it knows of, and no death of the place is among these, none is
-- above the number of its death.
abbrev pub StampsFit : Type 0
StampsFit = (es : List Entry) (p : PlaceId) (reach n : ℕ) (k : List MadeEvent) → death_number 0 p (take reach es) ≡ None
    → death_number 0 p es ≡ Some n → StampedTo reach k → StampedTo n k
