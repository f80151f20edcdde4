-- The first place that died and was not closed.
use Rattle.std.specs.Prelude.{ℕ, ◌<◌, List, length, Option, Some, None}
use Rattle.rx_base.specs.declared.ids.PlaceId.{PlaceId}
use Rattle.rx_rules.specs.declared.entries.Entry.{Entry}
use Rattle.rx_rules.specs.declared.events.PlaceEvent.{PlaceEvent}
use Rattle.rx_verdict.specs.Verdicts.{IsShut}

-- none where each place that died has a close in its journal, or else the least place that does not
abbrev pub IsFirstUnclosed : List Entry → List (List PlaceEvent) → Option PlaceId → Type 0
IsFirstUnclosed es js None = (q : ℕ) → q < length js → IsShut es js q
IsFirstUnclosed es js (Some p) = (p.0 < length js) × ((q : ℕ) → q < p.0 → IsShut es js q) × (IsShut es js p.0 → ⊥)
