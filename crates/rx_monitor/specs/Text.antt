-- The text of what a watch has seen.
use Rattle.std.specs.Prelude.{ℕ, List, [], ◌∷◌, ◌++◌, codes}
use Rattle.std.specs.List.{flat_map}
use Rattle.rx_base.specs.declared.place_set.PlaceSet.{PlaceSet}
use Rattle.rx_base.specs.Sets.{members}
use Rattle.rx_text.specs.Numbers.{natural_text}
use Rattle.rx_monitor.specs.declared.summary.Summary.{Summary}

-- a number after a blank
abbrev pub field : ℕ → List ℕ
field n = codes " " ++ natural_text n

-- the dead places in ascending order, or nothing where none is dead
abbrev pub places_part : List ℕ → List ℕ
places_part [] = []
places_part (p ∷ ps) = codes " dead" ++ flat_map field (p ∷ ps)

unfoldable pub dead_part : PlaceSet → List ℕ
dead_part dead = places_part (members dead)

-- the line of a summary
abbrev pub line : Summary → List ℕ
line s =
    codes "seen" ++ field s.len ++ codes " scopes" ++ field s.scopes ++ codes " live" ++ field s.live ++ codes " travel" ++ field s.travel
    ++ dead_part s.dead ++ codes "\n"

-- the lines of a watch, one for each summary
abbrev pub watch_text : List Summary → List ℕ
watch_text items = flat_map line items
