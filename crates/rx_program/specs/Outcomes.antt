-- What determines an outcome.
use Rattle.std.specs.Prelude.{◌≡◌, ℕ, List, Option, Some}
use Rattle.rx_words.specs.Words.{Asked, Gen, Live, asked_any}
use Rattle.rx_program.specs.declared.status.Status.{Status}
use Rattle.rx_program.specs.Top.{IsOutcome}

-- Two outcomes of the same words with the same text have the same status, whatever the sources: the text tells the status.
abbrev pub TextTellsStatus : Type 0
TextTellsStatus = (words : List (List ℕ)) (old new older newer : Option (List ℕ)) (text : List ℕ) (status other : Status)
    → IsOutcome (asked_any words) old new text status → IsOutcome (asked_any words) older newer text other
    → status ≡ other

-- All that decides what a command does is known: the bytes that it reads, of which `gen` has none. Of `live` it is not known what its
-- threads do.
abbrev pub IsKnown : Asked → Option (List ℕ) → Type 0
IsKnown (Gen size U seed) left = Unit {0}
IsKnown (Live U workers watch) left = ⊥
IsKnown _ left = (bytes : List ℕ) × (left ≡ Some bytes)

-- The same words and the same bytes of the source have one outcome, where no threads are started.
abbrev pub OneOutcome : Type 0
OneOutcome = (words : List (List ℕ)) (old new newer : Option (List ℕ)) (text written : List ℕ) (status other : Status)
    → IsKnown (asked_any words) old
    → IsOutcome (asked_any words) old new text status → IsOutcome (asked_any words) old newer written other
    → (text ≡ written) × (status ≡ other)
