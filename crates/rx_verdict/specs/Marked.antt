-- Marks on the events of journals.
use Rattle.std.specs.Prelude.{◌≡◌, ℕ, ◌<◌, Bool, true, false, ◌&&◌, ◌||◌, ◌==◌, List, [], map, replicate, length, slice_index_or, slice_set}
use Rattle.rx_rules.specs.declared.events.PlaceEvent.{PlaceEvent}
use Rattle.rx_rules.specs.Plays.{journal_at}

-- the marks of the journal of place p
abbrev pub row_at : List (List Bool) → ℕ → List Bool
row_at ms p = slice_index_or ms p []

-- event e of place p is marked
abbrev pub marked : List (List Bool) → ℕ → ℕ → Bool
marked ms p e = slice_index_or (row_at ms p) e false

-- no event is marked
abbrev pub no_marks : List (List PlaceEvent) → List (List Bool)
no_marks js = map (λ j. replicate (length j) false) js

-- event e of place p is marked, and the others are as they were
abbrev pub with_mark : List (List Bool) → ℕ → ℕ → List (List Bool)
with_mark ms p e = slice_set ms p (slice_set (row_at ms p) e true)

-- there is a mark for each event of each journal
pub record HasShape (js : List (List PlaceEvent)) (ms : List (List Bool)) : Type 0 where
  pub rows : length ms ≡ length js
  pub events : (p : ℕ) → length (row_at ms p) ≡ length (journal_at js p)

-- before the first mark there is none, and a mark for each event
abbrev pub NoMarks : Type 0
NoMarks = (js : List (List PlaceEvent)) → HasShape js (no_marks js) × ((p e : ℕ) → marked (no_marks js) p e ≡ false)

-- a mark marks its event and no other
abbrev pub OneMark : Type 0
OneMark =
    (js : List (List PlaceEvent)) (ms : List (List Bool)) (p e : ℕ) → HasShape js ms → e < length (journal_at js p)
    → HasShape js (with_mark ms p e)
    × ((q f : ℕ) → marked (with_mark ms p e) q f ≡ (((q == p) && (f == e)) || marked ms q f))
