-- Two accounts of one task: the one that its entries give, and the one that its place gives.
use Rattle.std.specs.Prelude.{ℕ, List, ◌++◌}
use Rattle.rx_base.specs.declared.ids.PlaceId.{PlaceId}
use Rattle.rx_rules.specs.Terms.{Term, Vars}
use Rattle.rx_rules.specs.Plays.{Starts, Cells, Moves, Plays}

-- Where the term makes all its entries with the events that they name, and makes the first of its entries with all its events
-- at its place, and the named events are the first of all: there it makes all entries with all events.
abbrev pub AccountsMerge : Type 0
AccountsMerge = (starts : Starts) (here : PlaceId) (low : ℕ) (vars : Vars) (t : Term) (batch : List (List ℕ))
    (named rest : Cells) (early late : Moves) → Plays starts here low vars t batch named (early ++ late)
    → Plays starts here low vars t batch (named ++ rest) early → Plays starts here low vars t batch (named ++ rest) (early ++ late)
