-- The numbers of a path, and faults.
use Rattle.std.specs.Prelude.{ℕ, ◌≤◌, List, [], take, Option, Some, None, vec_capacity}
use Rattle.std.specs.Global.{Box, Vec}
use Rattle.rx_base.specs.declared.lists.Numbers.{Numbers}
use Rattle.rx_base.specs.declared.lists.Numbers.TheVariants.{Few, Many}

-- the numbers in their order
abbrev pub listed : Numbers → List ℕ
listed (Few len few) = take len few
listed (Many many) = many.value

-- what stands in the value itself are at most seven
abbrev pub IsShort : Numbers → Type 0
IsShort (Few len few) = len ≤ 7
IsShort (Many many) = Unit {0}

-- the items in their order
abbrev pub boxed : {X : Type 0} → Option (Box (Vec X)) → List X
boxed None = []
boxed (Some b) = b.value.items

-- for how many items there is room
abbrev pub room_in : {X : Type 0} → Option (Box (Vec X)) → ℕ
room_in None = 0
room_in (Some b) = vec_capacity b.value
