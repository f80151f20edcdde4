-- The numbers of a long path.
use Rattle.std.specs.Prelude.{ℕ, ◌≤◌, List, take}
use Rattle.rx_base.specs.declared.long.Row.{Row}
use Rattle.rx_base.specs.declared.long.Row.TheVariants.{Short, All}

-- the numbers in a block, and that at most fourteen stand in it
abbrev pub in_row : Row → List ℕ
in_row (Short len few) = take len few
in_row (All all) = all.items

abbrev pub IsShortRow : Row → Type 0
IsShortRow (Short len few) = len ≤ 14
IsShortRow (All all) = Unit {0}
