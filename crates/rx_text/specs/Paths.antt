-- How paths are written.
use Rattle.std.specs.Prelude.{◌≢◌, ℕ, List, [], ◌∷◌, ◌++◌, slice_index}
use Rattle.std.specs.List.{flat_map}
use Rattle.rx_text.specs.Numbers.{natural_text, NoDigitFirst}

-- a number after the first, with its dot
abbrev pub dotted : ℕ → List ℕ
dotted n = 46 ∷ natural_text n

-- the numbers of a path, joined by dots
abbrev pub path_text : List ℕ → List ℕ
path_text [] = []
path_text (n ∷ ns) = natural_text n ++ flat_map dotted ns

-- neither a digit nor a dot stands in front
abbrev pub NoPathFirst : List ℕ → Type 0
NoPathFirst bytes = NoDigitFirst bytes × (slice_index bytes 0 ≢ 46)
