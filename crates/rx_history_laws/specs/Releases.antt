-- What the releases of a history keep.
use Rattle.std.specs.Prelude.{◌≡◌, ℕ, ◌≤◌, List, Some, slice_get}
use Rattle.rx_rules.specs.declared.entries.Entry.{Entry}
use Rattle.rx_rules.specs.declared.events.PlaceEvent.{PlaceEvent}
use Rattle.rx_rules.specs.Code.{Block}
use Rattle.rx_rules.specs.Fold.{opening, wide_opening, AllAllowed}
use Rattle.rx_rules.specs.Run.{Given, IsRun}
use Rattle.rx_rules.specs.Inversions.{MaskedMeansLost}
use Rattle.rx_rules.specs.Laws.{NoEarlyRelease, LossExact, LossExactOf}

-- where each entry is allowed, no scope is released before each task under it has ended or is hit
abbrev pub NothingIsEarly : Type 0
NothingIsEarly = (places : ℕ) (es : List Entry) → places ≤ 16 → AllAllowed 0 (opening places) es → NoEarlyRelease es

-- where each entry is allowed, each release names the places at which tasks under its scope were lost, and no other
abbrev pub LossesAreExact : Type 0
LossesAreExact = (places : ℕ) (es : List Entry) → places ≤ 16 → AllAllowed 0 (opening places) es → LossExact es

-- the same two whatever the limit of places

abbrev pub WideNothingIsEarly : Type 0
WideNothingIsEarly = (limit places : ℕ) (es : List Entry) → places ≤ limit → AllAllowed 0 (wide_opening limit places) es → NoEarlyRelease es

abbrev pub WideLossesAreExact : Type 0
WideLossesAreExact = (limit places : ℕ) (es : List Entry) → places ≤ limit → AllAllowed 0 (wide_opening limit places) es → LossExactOf limit es

-- nothing is early in a whole run
abbrev pub RunIsNotEarly : Type 0
RunIsNotEarly = (code : Block) (U : Given) (es : List Entry) (js : List (List PlaceEvent)) → IsRun code U es js → NoEarlyRelease es

-- the losses of a whole run are exact
abbrev pub RunIsExact : Type 0
RunIsExact = (code : Block) (U : Given) (es : List Entry) (js : List (List PlaceEvent)) → IsRun code U es js → LossExact es

-- of each release of a whole run that masks faults the set of lost places is not empty
abbrev pub RunMaskedIsLost : Type 0
RunMaskedIsLost =
    (code : Block) (U : Given) (es : List Entry) (js : List (List PlaceEvent)) → IsRun code U es js →
    (i : ℕ) (e : Entry) → slice_get es i ≡ Some e → MaskedMeansLost e
