-- No statement instance stands twice in a history.
use Rattle.std.specs.Prelude.{◌≢◌, ℕ, List, [], ◌∷◌}
use Rattle.rx_rules.specs.declared.entries.Entry.{Entry}
use Rattle.rx_rules.specs.declared.events.PlaceEvent.{PlaceEvent}
use Rattle.rx_rules.specs.Code.{Block}
use Rattle.rx_rules.specs.Run.{Given, IsRun}
use Rattle.rx_rules.specs.Order.{told}

-- the path is none of these
abbrev pub IsNone : List ℕ → List (List ℕ) → Type 0
IsNone x [] = Unit {0}
IsNone x (y ∷ ys) = (x ≢ y) × IsNone x ys

-- no two of the paths are the same
abbrev pub AllDiffer : List (List ℕ) → Type 0
AllDiffer [] = Unit {0}
AllDiffer (x ∷ xs) = IsNone x xs × AllDiffer xs

-- the history of a whole run tells no statement instance twice
abbrev pub EachIsToldOnce : Type 0
EachIsToldOnce = (code : Block) (U : Given) (es : List Entry) (js : List (List PlaceEvent)) → IsRun code U es js → AllDiffer (told es)
