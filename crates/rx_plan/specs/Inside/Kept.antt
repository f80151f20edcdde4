-- How values are kept.
use Rattle.std.specs.Prelude.{ℕ, ◌≤◌, ◌-◌, List, ◌++◌, length, replicate, Option, None}
use Rattle.rx_base.specs.declared.values.Value.{Value}

-- the values of 32 names, of which the first ones are kept, and the others have none
abbrev pub padded : List (Option Value) → List (Option Value)
padded values = values ++ replicate (32 - length values) None

-- no more are kept than there are names
abbrev pub IsShort : List (Option Value) → Type 0
IsShort values = length values ≤ 32
