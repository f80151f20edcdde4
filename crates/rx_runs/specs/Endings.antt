-- No task of a whole run stops by itself.
use Rattle.std.specs.Prelude.{◌≡◌, ℕ, ◌+◌, ◌<◌, ◌==◌, true, false, List}
use Rattle.std.specs.List.{list_any}
use Rattle.rx_rules.specs.declared.entries.Entry.{Entry}
use Rattle.rx_rules.specs.declared.events.PlaceEvent.{PlaceEvent}
use Rattle.rx_rules.specs.Code.{Block}
use Rattle.rx_rules.specs.Fold.{births, tree_of}
use Rattle.rx_rules.specs.Run.{Given, IsRun}
use Rattle.rx_rules.specs.Laws.{has_ended}

-- In a whole run each task that was born has its end in the history, but for those that a death struck and a release removed:
-- these are the `gone` ones of the tree.
abbrev pub EveryoneEnds : Type 0
EveryoneEnds = (code : Block) (U : Given) (es : List Entry) (js : List (List PlaceEvent)) (t : ℕ) → IsRun code U es js
    → t < 1 + births es → list_any (λ x. x.number.0 == t) (tree_of U.places es).gone ≡ false → has_ended es t ≡ true
