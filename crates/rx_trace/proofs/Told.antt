-- Lines that have to be entries or events.
use Rattle.std.proofs.Common.{◌≡◌, ℕ, ◌+◌, ◌==◌, Bool, true, false, nat_lt, not, ◌&&◌, List, [], ◌∷◌, ◌++◌, length, slice_index, refl, ap, codes}
use Rattle.std.specs.Str.{bytes_eq}
use Rattle.rx_rules.specs.declared.entries.Entry.{Entry}
use Rattle.rx_rules.specs.declared.events.PlaceEvent.{PlaceEvent}
use Rattle.rx_rules.proofs.Common.{Given, in_all}
use Rattle.rx_trace.specs.Inside.Machine.{Entering, Logging, begins_journal, told_there}

-- a line that does not begin with the letter j begins no journal
pub no_journal : (line text : List ℕ) → (slice_index line 0 == 106) ≡ false → bytes_eq line (codes "journal " ++ text) ≡ false
no_journal [] text other = refl
no_journal (b ∷ bs) text other = ap (λ t. t && bytes_eq bs (codes "ournal " ++ text)) other

neither : (a b : Bool) → (not a && not b) ≡ true → (a ≡ false) × (b ≡ false)
neither true b h = cc
neither false true h = cc
neither false false h = (refl, refl)

-- a line that has to be an entry begins no journal
pub no_first_journal : (setup : Given) (entries : List Entry) (line : List ℕ) → told_there (Entering setup entries) line ≡ true → begins_journal 0 line ≡ false
no_first_journal setup entries line told = by (begins_journal 0 line) told
  where
    by : (b : Bool) → not b ≡ true → b ≡ false
    by true h = cc
    by false h = refl

-- a line that has to be an event begins no journal
pub no_next_journal : (setup : Given) (entries : List Entry) (journals : List (List PlaceEvent)) (events : List PlaceEvent) (line : List ℕ) → told_there (Logging setup entries journals events) line ≡ true
    → (begins_journal (length journals + 1) line && nat_lt (length journals + 1) (in_all setup)) ≡ false
no_next_journal setup entries journals events line told = (neither _ _ told).0

-- and is not the last
pub no_end : (setup : Given) (entries : List Entry) (journals : List (List PlaceEvent)) (events : List PlaceEvent) (line : List ℕ) → told_there (Logging setup entries journals events) line ≡ true
    → (bytes_eq line (codes "done") && length journals + 1 == in_all setup) ≡ false
no_end setup entries journals events line told = (neither _ _ told).1
